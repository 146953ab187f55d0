-- Whom a history starves: the first that waits and is hungry between the watched round and the first return.
use Rattle.std.proofs.Common.{◌≡◌, ℕ, ◌+◌, ◌-◌, ◌<◌, ◌≤◌, ◌==◌, Bool, true, false, true≢false, cond, List, [], ◌∷◌, Option, Some, None, length, get_or, take, drop, option_map, refl, sym, ap, subst, ◌∙◌, arith}
use Rattle.std.specs.Prelude.{IsSomeAnd, find, nat_lt, position, slice_get}
use Rattle.std.specs.List.{position_or_len}
use Rattle.std.proofs.lemmas.Bool.Decides.{nat_tests}
use Rattle.std.proofs.lemmas.List.Quantifiers.{position-Some}
use Rattle.std.proofs.lemmas.List.Sums.{fails_before_first}
use mathlib.Core.Option.{some, some-injective}
use lib.ListN.{get_elem?}
use Rattle.sched_base.specs.declared.task.Task.{Task}
use Rattle.policy_tree.specs.Meaning.{Meaning}
use Rattle.round_model.specs.declared.entry.Entry.{Entry}
use Rattle.round_model.specs.declared.entry.Entry.TheVariants as entry
use Rattle.round_model.specs.declared.plan.Plan.{Plan}
use Rattle.round_model.specs.declared.state.ModelCore.{ModelCore}
use Rattle.round_model.specs.After.{after}
use Rattle.round_model.specs.Legal.{Legal}
use Rattle.round_model.specs.Rounds.{BeginsAt}
use Rattle.waiting_laws.specs.Waiting.{IsInPlace, RunsIn}
use Rattle.round_laws.proofs.RoundNumbers.{begins_in_order, begins_once, entry_inside}
use Rattle.starving_plays.specs.declared.coming_back.Return.{Return}
use Rattle.starving_plays.specs.declared.coming_back.TheConstants.{WATCHED_FROM}
use Rattle.starving_plays.specs.Code.{IsReturn, opens_first}
use Rattle.starving_plays.specs.Starving.{Starves, first_hungry, is_hungry}
use Rattle.starving_plays.proofs.HungerLemmas.{found_at, must_run, none_at, not_run}
use Rattle.starving_plays.proofs.Returns.{elem_at}

opens : (e : Entry) → opens_first e ≡ true → e ≡ entry.Round WATCHED_FROM
opens (entry.Round number) passes = let same : number ≡ WATCHED_FROM = grind (arith, nat_tests) in ap entry.Round same
opens (entry.Enter thread by at reads) passes = absurd (let bad = passes in cc)
opens (entry.Wake thread by at reads) passes = absurd (let bad = passes in cc)
opens (entry.Work by what) passes = absurd (let bad = passes in cc)
opens (entry.Steal by from threads reads) passes = absurd (let bad = passes in cc)
opens (entry.Fail by from reads) passes = absurd (let bad = passes in cc)
opens (entry.Pass by reads) passes = absurd (let bad = passes in cc)

-- the watched round begins where its Round was found
pub opened_at : (h : List Entry) (low : ℕ) → position opens_first h ≡ Some low → BeginsAt h WATCHED_FROM low
opened_at h low found =
    let at = position-Some opens_first h low (entry.Round 0) found in
    elem_at h low (entry.Round 0) at.0 ∙ ap some (opens (get_or h low (entry.Round 0)) at.1)

-- and nowhere, where it wasn't
pub never_opened : (h : List Entry) → position opens_first h ≡ None → (k : ℕ) → ¬ BeginsAt h WATCHED_FROM k
never_opened h none k begins = by (nat_lt (position_or_len opens_first h) (length h)) refl none
  where
    by : (b : Bool) → nat_lt (position_or_len opens_first h) (length h) ≡ b → cond b (Some (position_or_len opens_first h)) None ≡ None → ⊥
    by true inside found = let bad = found in cc
    by false past none =
        let behind : length h ≤ position_or_len opens_first h = grind (arith, nat_tests) in
        let there = entry_inside h k (entry.Round WATCHED_FROM) begins in
        let same : get_or h k (entry.Round 0) ≡ entry.Round WATCHED_FROM = some-injective _ _ (sym (elem_at h k (entry.Round 0) there) ∙ begins) in
        let fails = fails_before_first opens_first h k (entry.Round 0) (omega arith) in
        true≢false (sym (ap opens_first same) ∙ fails)

-- a thread in a place of a queue
record StandsIn (x : ℕ) (queue : List Task) (place : ℕ) : Type 0 where
  task : Task
  there : slice_get queue place ≡ Some task
  is : task.id ≡ x

stands_in : (x : ℕ) (queue : List Task) (place : ℕ) → IsInPlace x queue place → StandsIn x queue place
stands_in x queue place = by (slice_get queue place) refl
  where
    by : (o : Option Task) → slice_get queue place ≡ o → IsSomeAnd o (λ (t : Task). t.id ≡ x) → StandsIn x queue place
    by None is none = absurd none
    by (Some t) is same = record { task = t; there = is; is = same }

in_place : (x : ℕ) (queue : List Task) (place : ℕ) (t : Task) → slice_get queue place ≡ Some t → t.id ≡ x → IsInPlace x queue place
in_place x queue place t there same = subst (λ (o : Option Task). IsSomeAnd o (λ (u : Task). u.id ≡ x)) (sym there) same

-- the task of a number that was found
record OfTask (test : Task → Bool) (queue : List Task) (x : ℕ) : Type 0 where
  task : Task
  found : find test queue ≡ Some task
  is : task.id ≡ x

of_task : (test : Task → Bool) (queue : List Task) (x : ℕ) → option_map (λ (t : Task). t.id) (find test queue) ≡ Some x → OfTask test queue x
of_task test queue x = by (find test queue) refl
  where
    by : (o : Option Task) → find test queue ≡ o → option_map (λ (t : Task). t.id) o ≡ Some x → OfTask test queue x
    by None is found = absurd (let bad = found in cc)
    by (Some t) is found = record { task = t; found = is; is = cc }

no_task : (test : Task → Bool) (queue : List Task) → option_map (λ (t : Task). t.id) (find test queue) ≡ None → find test queue ≡ None
no_task test queue = by (find test queue) refl
  where
    by : (o : Option Task) → find test queue ≡ o → option_map (λ (t : Task). t.id) o ≡ None → find test queue ≡ None
    by None is none = is
    by (Some t) is none = absurd (let bad = none in cc)

module _ (p : Meaning) (plan : Plan) (h : List Entry) (legal : Legal p plan h) (low : ℕ) (begins : BeginsAt h WATCHED_FROM low) where
  abbrev watched : ModelCore
  watched = after p plan (take low h) 0

  -- the history comes back no sooner than the watched round begins
  pub in_order : (number at : ℕ) → IsReturn p plan h watched number at → low ≤ at
  in_order number at back = let later = back.later in begins_in_order p plan h legal WATCHED_FROM number low at begins back.begins (omega arith)

  module _ (r : Return) (back : IsReturn p plan h watched r.round r.at) where
    -- whoever is found is starved
    pub starves : (x : ℕ) → first_hungry watched.queue (take (r.at - low) (drop low h)) ≡ Some x → Starves p plan h x r.round
    starves x found =
        let before = in_order r.round r.at back in
        let of = of_task (is_hungry (take (r.at - low) (drop low h))) watched.queue x found in
        let at = found_at (is_hungry (take (r.at - low) (drop low h))) watched.queue of.task of.found in
        record {
          low = low;
          at = r.at;
          comes_back = record { begins = begins; again = back.begins; later = back.later; back = back.back };
          place = at.0;
          waits = in_place x watched.queue at.0 of.task at.1 of.is;
          hungry = subst (λ (id : ℕ). ¬ RunsIn h id 0 low r.at) of.is (not_run h low r.at before of.task at.2);
        }

  -- a starved thread comes with a return
  returns : (x number : ℕ) → (s : Starves p plan h x number) → IsReturn p plan h watched number s.at
  returns x number s =
      let same = begins_once p plan h legal WATCHED_FROM s.low low s.comes_back.begins begins in
      subst (λ (k : ℕ). IsReturn p plan h (after p plan (take k h) 0) number s.at) same (record { begins = s.comes_back.again; later = s.comes_back.later; back = s.comes_back.back })

  -- where the history doesn't come back, it starves none
  pub none_without_return : ((number at : ℕ) → ¬ IsReturn p plan h watched number at) → (x number : ℕ) → ¬ Starves p plan h x number
  none_without_return none x number s = none number s.at (returns x number s)

  -- nor where nobody is found
  pub none_fed : (r : Return) → IsReturn p plan h watched r.round r.at → ((number at : ℕ) → IsReturn p plan h watched number at → r.at ≤ at)
      → first_hungry watched.queue (take (r.at - low) (drop low h)) ≡ None → (x number : ℕ) → ¬ Starves p plan h x number
  none_fed r back first none x number s =
      let before = in_order r.round r.at back in
      let same = begins_once p plan h legal WATCHED_FROM s.low low s.comes_back.begins begins in
      let no_later = first number s.at (returns x number s) in
      let stands = stands_in x watched.queue s.place (subst (λ (k : ℕ). IsInPlace x (after p plan (take k h) 0).queue s.place) same s.waits) in
      let fed = none_at (is_hungry (take (r.at - low) (drop low h))) watched.queue (no_task (is_hungry (take (r.at - low) (drop low h))) watched.queue none) s.place stands.task stands.there in
      let run = must_run h low r.at before stands.task fed in
      let not_before = run.not_before in let early = run.before in
      s.hungry (record {
        position = run.position;
        not_before = omega (arith, same);
        before = omega arith;
        what = run.what;
        works = run.works;
        runs = run.runs ∙ ap Some stands.is;
      })
