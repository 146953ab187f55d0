-- What the calls of a core ask, of the cores that a legal history leaves.
use Rattle.std.proofs.Common.{◌≡◌, ℕ, ◌+◌, ◌<◌, ◌≤◌, eqb, Bool, cond, true, false, List, [], ◌∷◌, ◌++◌, length, find, count_by, IsSome, Option, Some, None, option_to_list, refl, ap, arith}
use Rattle.std.specs.Prelude.{IsSomeAnd}
use Rattle.std.proofs.lemmas.Bool.Decides.{nat_tests}
use Rattle.std.proofs.lemmas.List.{length-append}
use Rattle.std.proofs.lemmas.List.Sums.{sum_by-cons}
use Rattle.sched_base.specs.declared.limits.TheConstants.{MAX_ROUNDS}
use Rattle.policy_tree.specs.Meaning.{Meaning}
use Rattle.policy_eval.specs.Fitting.{CoreFits}
use Rattle.policy_eval.specs.Obligations.{MeetsHandlerObligations}
use Rattle.policy_eval.specs.Sights.{no_attributes}
use Rattle.policy_eval.proofs.Wide.{LoadsFit-bound}
use Rattle.round_model.specs.declared.entry.Entry.{Entry}
use Rattle.round_model.specs.declared.entry.Entry.TheVariants as entry
use Rattle.round_model.specs.declared.plan.Plan.{Plan}
use Rattle.round_model.specs.declared.plan.Planned.{Planned}
use Rattle.round_model.specs.declared.state.ModelCore.{ModelCore}
use Rattle.round_model.specs.After.{after, round_of}
use Rattle.round_model.specs.Bounds.{standing_count, standing_total}
use Rattle.round_model.specs.BoundsLaws.{IsBounded, is_awaited}
use Rattle.round_model.specs.Kept.{Holds}
use Rattle.round_model.specs.Updates.{updated}
use Rattle.round_model.specs.Cores.{Cores, seen_of}
use Rattle.round_model.specs.Fits.{Fits}
use Rattle.round_model.specs.Legal.{Legal, LegalNext, rounds_begun}
use Rattle.round_model.specs.Limits.{IsWithinLimits}
use Rattle.round_model.specs.Reads.{values_of}
use Rattle.round_model.specs.Rows.{Row}
use Rattle.round_model.specs.Scenes.{entering_next, is_entering, own_entries, scene_of}
use Rattle.round_model.proofs.Awaited.{let_in_awaited}
use Rattle.round_model.proofs.Histories.{due_within}
use Rattle.round_model.proofs.Bounded.{bounds_law}
use Rattle.round_model.proofs.Bursts.{have_bursts}
use Rattle.round_model.proofs.Histories.{legal_induction, open_round}
use Rattle.round_model.proofs.Keeping.{bounds_hold, stays_after}
use Rattle.round_model.proofs.Longer.{begun_more}
use Rattle.round_model.proofs.Totals.{total_has, total_is}
use Rattle.core_state.specs.Views.{HasRoom}
use Rattle.core_moves.specs.Code.Changes.{CanAdmit, CanRun, IsCountable}
use Rattle.core_moves.specs.Cores.{shown}

-- fewer threads stand at the core than have room, so that each may be queued or blocked there
pub has_room : (p : Meaning) (plan : Plan) (h : List Entry) (m : Cores) (c : ℕ) → standing_count (m c) < length plan.threads → HasRoom (shown p plan h m c)
has_room p plan h m c few = let all = length-append (option_to_list (m c).current) (m c).queue in record { queue = omega arith; blocked = omega arith }

-- a number of items that pass, where one is found
module _ {X : Type 0} (first test : X → Bool) (passes : (x : X) → first x ≡ true → test x ≡ true) where
  counted : X → ℕ
  counted x = cond (test x) 1 0

  some_counted : (xs : List X) → IsSome (find first xs) → 1 ≤ count_by test xs
  unfolding counted
  some_counted [] found = absurd (cc)
  some_counted (x ∷ xs) found =
      let cons : count_by test (x ∷ xs) ≡ counted x + count_by test xs = sum_by-cons (λ y. cond (test y) 1 0) x xs in
      elim (first x) as (λ b. first x ≡ b → IsSome (cond b (Some x) (find first xs)) → 1 ≤ count_by test (x ∷ xs)) [
        | true ↦ λ e there. let here : counted x ≡ 1 = ap (λ b. cond b 1 0) (passes x e) in omega arith
        | false ↦ λ e there. let rest = some_counted xs there in omega arith
      ] refl found

module _ (p : Meaning) (plan : Plan) (fits : Fits p plan) (handlers : MeetsHandlerObligations p) (h : List Entry) (legal : Legal p plan h) where
  bounded : IsBounded p plan h
  bounded = bounds_law p plan h fits handlers legal

  pub core_holds : (c : ℕ) → c < plan.cores → Holds p (after p plan h c)
  core_holds c there = bounds_hold p (after p plan h c) (bounded.bounds.each c there)

  pub stand : (c : ℕ) → c < plan.cores → standing_count (after p plan h c) ≤ standing_total plan (after p plan h)
  stand c there = let m = after p plan h in let here = total_has standing_count plan.cores m c there in omega (arith, total_is standing_count plan.cores m)

  -- a core may take a thread that enters just now
  pub can_enter : (thread by at : ℕ) (reads : List ℕ) → at < plan.cores → LegalNext p plan h (entry.Enter thread by at reads)
      → CanAdmit p (shown p plan h (after p plan h) at)
  unfolding LegalNext Row scene_of entering_next
  can_enter thread by at reads there next =
      let entering : Planned → Bool = is_entering (round_of h) by (own_entries h by) in
      let found = some_next (find entering plan.threads) next.row.next in
      let one = some_counted entering (is_awaited h) (λ t. let_in_awaited h t by) plan.threads found in
      let room = bounded.room in let here = stand at there in
      record { consts = (core_holds at there).consts; room = has_room p plan h (after p plan h) at (omega arith) }
    where
      some_next : (o : Option Planned) → IsSomeAnd o (λ (t : Planned). t.id ≡ thread) → IsSome o
      some_next None is = absurd is
      some_next (Some t) is = refl

  -- a thread has left one core, so that there is room for it at each
  pub room_after : (a b : ℕ) (f : ModelCore → ModelCore) → a < plan.cores → b < plan.cores
      → standing_count (f (after p plan h a)) + 1 ≤ standing_count (after p plan h a)
      → standing_count (updated (after p plan h) a (f (after p plan h a)) b) < length plan.threads
  room_after a b f first second less =
      let m = after p plan h in let total = bounded.bounds.total in let here = stand a first in
      elim (eqb a b) as (λ x. eqb a b ≡ x → standing_count (cond x (f (m a)) (m b)) < length plan.threads) [
        | true ↦ λ e. omega arith
        | false ↦ λ e. let both = bounded.two_cores a b first second (λ same. let test : eqb a b ≡ true = grind (arith, nat_tests) in absurd (cc)) in omega arith
      ] refl

  -- a core may take the thread that left
  pub can_admit : (a b : ℕ) (f : ModelCore → ModelCore) → a < plan.cores → b < plan.cores
      → standing_count (f (after p plan h a)) + 1 ≤ standing_count (after p plan h a) → Holds p (f (after p plan h a))
      → CanAdmit p (shown p plan h (updated (after p plan h) a (f (after p plan h a))) b)
  can_admit a b f first second less holds =
      let m = after p plan h in
      record {
        consts = (stays_after (Holds p) m a b (f (m a)) (core_holds b second) (λ same. holds)).consts;
        room = has_room p plan h (updated m a (f (m a))) b (room_after a b f first second less);
      }

  -- a core may run its unit
  pub can_run : (c : ℕ) → c < plan.cores → CanRun p plan (shown p plan h (after p plan h) c)
  can_run c there =
      let few = stand c there in let total = bounded.bounds.total in
      record { order = refl; bounds = bounded.bounds.each c there; bursts = have_bursts p plan h c fits; room = record { queue = omega arith; blocked = omega arith } }

  pub countable : (c : ℕ) → c < plan.cores → IsCountable (shown p plan h (after p plan h) c)
  countable c there =
      let core = after p plan h c in let loads = (bounded.bounds.each c there).loads in
      record { nr = loads.few; load = LoadsFit-bound p fits.policy (seen_of core).nr (seen_of core).load loads }

  -- what is seen of a core lies in the policy's ranges
  pub seen_fits : (c : ℕ) → c < plan.cores → CoreFits p (values_of plan c (seen_of (after p plan h c)))
  seen_fits c there = record {
    loads = (bounded.bounds.each c there).loads;
    consts = fits.consts c no_attributes (omega (arith, fits.consts_each));
  }

module _ (p : Meaning) (plan : Plan) where
  begun_on : (h : List Entry) (e : Entry) → LegalNext p plan h e → rounds_begun h ≤ plan.rounds → rounds_begun (h ++ e ∷ []) ≤ plan.rounds
  unfolding LegalNext
  begun_on h (entry.Round number) legal few = omega (arith, begun_more h (entry.Round number), due_within plan h legal.due)
  begun_on h (entry.Enter thread by at reads) legal few = omega (arith, begun_more h (entry.Enter thread by at reads))
  begun_on h (entry.Wake thread by at reads) legal few = omega (arith, begun_more h (entry.Wake thread by at reads))
  begun_on h (entry.Work by what) legal few = omega (arith, begun_more h (entry.Work by what))
  begun_on h (entry.Steal by from threads reads) legal few = omega (arith, begun_more h (entry.Steal by from threads reads))
  begun_on h (entry.Fail by from reads) legal few = omega (arith, begun_more h (entry.Fail by from reads))
  begun_on h (entry.Pass by reads) legal few = omega (arith, begun_more h (entry.Pass by reads))

  -- the open round is one of the plan
  pub round_within : IsWithinLimits plan → (h : List Entry) → Legal p plan h → round_of h ≤ MAX_ROUNDS
  round_within limits h legal =
      let begun = legal_induction p plan (λ g. rounds_begun g ≤ plan.rounds) (omega arith) (λ g e so_far next few. begun_on g e next few) h legal in
      omega (arith, open_round p plan h legal, limits.few_rounds)
