-- Restless states: the victim has a load greater by 2 at least than the thief's, so the spread is 2 at least. Such are the states
-- before steals, and those in which a core is idle beside an overloaded one.
use Rattle.std.proofs.Common.{◌≡◌, ℕ, ◌+◌, ◌<◌, ◌≤◌, List, take, IsTrue, refl, sym, ap, ap₂, ◌∙◌, arith}
use mathlib.Core.Option.{some}
use lib.ListN.{get_elem?}
use Rattle.policy_tree.specs.Meaning.{Meaning}
use Rattle.policy_eval.specs.declared.env.CoreValues.{CoreValues}
use Rattle.policy_eval.specs.Fitting.{CoreFits}
use Rattle.policy_eval.specs.Obligations.{IdleSeesOverloaded}
use Rattle.policy_eval.specs.Ranges.{least_weight}
use Rattle.policy_eval.specs.Sights.{pair_values}
use Rattle.policy_eval.specs.Values.{holds}
use Rattle.round_model.specs.declared.entry.Entry.{Entry}
use Rattle.round_model.specs.declared.entry.Entry.TheVariants as entry
use Rattle.round_model.specs.declared.plan.Plan.{Plan}
use Rattle.round_model.specs.After.{after}
use Rattle.round_model.specs.Attempts.{present_values}
use Rattle.round_model.specs.Outcomes.{values_at}
use Rattle.round_model.specs.Cores.{Cores, load_of, seen_of, thread_count}
use Rattle.round_model.specs.Fits.{Fits}
use Rattle.round_model.specs.Kinds.{is_steal}
use Rattle.round_model.specs.Legal.{Legal}
use Rattle.round_model.specs.Reads.{values_of}
use Rattle.round_model.specs.Spread.{Beside, spread}
use Rattle.round_model.proofs.There.{acts_there}
use Rattle.round_laws.specs.Rest.{MeetsMoveObligations, Restless, RestlessAt}
use Rattle.round_laws.proofs.Apart.{gap_spread}
use Rattle.round_laws.proofs.Choosing.{PassesNow, choice_by, choice_is, legal_steal, steal_passes}
use Rattle.round_laws.proofs.MoveRows.{steal_cases}
use Rattle.round_laws.proofs.Thefts.{present_fits}

module _ (p : Meaning) (plan : Plan) (m w : Cores) where
  -- the filter's answer depends on no more than what is seen of the two cores
  pub passes_same : (a v : ℕ) → seen_of (m a) ≡ seen_of (w a) → seen_of (m v) ≡ seen_of (w v) → PassesNow p plan m a v → PassesNow p plan w a v
  passes_same a v thief victim passes = sym (ap₂ (λ (x y : CoreValues). holds (pair_values x y) p.filter) (ap (values_of plan a) thief) (ap (values_of plan v) victim)) ∙ passes

  -- so where the one cores are restless, others of the same counts and loads are too
  pub restless_same : ((c : ℕ) → c < plan.cores → seen_of (m c) ≡ seen_of (w c)) → Restless p plan m → Restless p plan w
  restless_same same restless = record {
    thief = restless.thief;
    victim = restless.victim;
    thief_there = restless.thief_there;
    victim_there = restless.victim_there;
    apart = restless.apart;
    passes = passes_same restless.thief restless.victim (same restless.thief restless.thief_there) (same restless.victim restless.victim_there) restless.passes;
  }

module _ (p : Meaning) (plan : Plan) (fits : Fits p plan) (meets : MeetsMoveObligations p) (h : List Entry) (legal : Legal p plan h) where
  m : Cores
  m = after p plan h

  fit : (c : ℕ) → c < plan.cores → CoreFits p (present_values plan m c)
  unfolding m
  fit = present_fits p plan fits meets.handlers h legal

  -- the victim has a load greater by 2 at least: a thread of the least weight narrows the gap
  gap : (restless : Restless p plan m) → load_of (m restless.thief) + 2 ≤ load_of (m restless.victim)
  gap restless =
      let thief = present_values plan m restless.thief in
      let victim = present_values plan m restless.victim in
      let victim_fits : CoreFits p victim = fit restless.victim restless.victim_there in
      let light = victim_fits.loads.light in
      let positive = fits.policy.load.positive in
      let less = meets.move_narrows_gap thief victim (least_weight p.load) (fit restless.thief restless.thief_there) victim_fits
      (record { least = omega arith; greatest = fits.policy.load.ordered }) restless.passes (omega arith) in
      omega arith

  -- so the spread of restless cores is 2 at least
  pub restless_spread : Restless p plan (after p plan h) → 2 ≤ spread plan (after p plan h)
  unfolding m
  restless_spread restless = gap_spread plan m restless.thief restless.victim 2 restless.thief_there restless.victim_there (gap restless)

  -- where a core is idle beside an overloaded one, and idle cores see overloaded ones, it may steal from it
  pub beside_restless : IdleSeesOverloaded p → Beside plan (after p plan h) → Restless p plan (after p plan h)
  unfolding m
  beside_restless sees beside = record {
    thief = beside.idle;
    victim = beside.overloaded;
    thief_there = beside.idle_there;
    victim_there = beside.overloaded_there;
    apart = λ is.
        let count : thread_count (m beside.idle) ≡ thread_count (m beside.overloaded) = ap (λ c. thread_count (m c)) is in
        let none = beside.is_idle in
        let two = beside.is_overloaded in
        omega arith;
    passes = sees (present_values plan m beside.idle) (present_values plan m beside.overloaded)
        (fit beside.idle beside.idle_there) (fit beside.overloaded beside.overloaded_there) beside.is_idle beside.is_overloaded;
  }

-- before a steal the cores are restless: thief and victim passed the filter as they were
pub restless_before_steal : (p : Meaning) (plan : Plan) (h : List Entry) → Legal p plan h → (k : ℕ) (e : Entry) → get_elem? h k ≡ some e → IsTrue (is_steal e) → RestlessAt p plan h k
restless_before_steal p plan h legal k e is steal =
    steal_cases (λ x. get_elem? h k ≡ some x → RestlessAt p plan h k)
    (λ by from threads reads here.
    let next = legal k (entry.Steal by from threads reads) here in
    let means = legal_steal p plan (take k h) by from threads reads next in
    let candidate = choice_is p plan.cores (values_at p plan (take k h) reads) by from means.choice in
    record {
      thief = by;
      victim = from;
      thief_there = acts_there p plan (take k h) (entry.Steal by from threads reads) by refl next;
      victim_there = candidate.there;
      apart = candidate.apart;
      passes = steal_passes p plan (after p plan (take k h)) by from threads (choice_by p plan (take k h) by reads) means;
    })
    e steal is
