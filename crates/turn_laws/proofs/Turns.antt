-- A thread of a core at rest stands in its queue, and isn't stolen: so it runs in its turn.
use Rattle.std.proofs.Common.{◌≡◌, ℕ, suc, ◌+◌, ◌<◌, ◌≤◌, Bool, true, false, zero, List, [], ◌∷◌, ◌++◌, Option, None, length, take, sym, ap, subst, ◌∙◌, arith}
use Rattle.std.specs.Prelude.{Contains, IsSomeAnd, slice_get, IsFalse, option_to_list}
use mathlib.Core.Option.{some}
use lib.ListN.{get_elem?}
use Rattle.sched_base.specs.declared.task.Task.{Task}
use Rattle.policy_tree.specs.Meaning.{Meaning}
use Rattle.round_model.specs.declared.entry.Entry.{Entry}
use Rattle.round_model.specs.declared.entry.Entry.TheVariants as entry
use Rattle.round_model.specs.declared.plan.Plan.{Plan}
use Rattle.round_model.specs.declared.state.ModelCore.{ModelCore}
use Rattle.round_model.specs.After.{after}
use Rattle.round_model.specs.Cores.{tasks_of, thread_count}
use Rattle.round_model.specs.Fits.{Fits}
use Rattle.round_model.specs.Kinds.{is_steal}
use Rattle.round_model.specs.Legal.{Legal}
use Rattle.round_model.specs.Rounds.{BeginsAt, round_at}
use Rattle.round_model.specs.Stretches.{InStretch}
use Rattle.round_laws.specs.Rest.{ComesToRest, MeetsMoveObligations}
use Rattle.round_laws.proofs.Rest.{rest_law}
use Rattle.round_laws.proofs.RoundNumbers.{entry_inside, opens_next, round_rises}
use Rattle.waiting_laws.specs.Waiting.{IsInPlace, IsUnstolen, QueuesAlways, RunsIn, units_of}
use Rattle.waiting_laws.proofs.Waiting.{none_current, waiting_law}
use Rattle.waiting_laws.proofs.WaitingUnits.{rounds_have_units}
use Rattle.turn_laws.specs.Turns.{HasRounds, RestsFrom, StandsAt, TurnsAtRest, TurnsAtRestLaw}

-- an item of a queue has a place in it
place_of : (x : ℕ) (queue : List Task) (t : Task) → Contains queue t → t.id ≡ x → (place : ℕ) × (place < length queue) × IsInPlace x queue place
place_of x [] t (k, inside, is) same = absurd (omega arith)
place_of x (u ∷ us) t (zero, inside, is) same = (0, omega arith, ap (λ (v : Task). v.id) is ∙ same)
place_of x (u ∷ us) t (suc k, inside, is) same = let later = place_of x us t (k, omega arith, is) same in (suc later.0, omega (arith, later.1), later.2)

module _ (p : Meaning) (plan : Plan) (h : List Entry) (fits : Fits p plan) (meets : MeetsMoveObligations p) (queues : QueuesAlways p) (legal : Legal p plan h) where
  -- no entry of the stretch before its last Round steals
  none_stolen : (first last opening rounds ending x c : ℕ) → RestsFrom p plan h first last opening → HasRounds p plan h first last rounds ending → IsUnstolen h x c opening ending
  none_stolen first last opening rounds ending x c rests has k by threads reads low high is contains =
      let comes : ComesToRest p plan h = rest_law p plan h fits meets legal in
      let risen = round_rises p plan h legal k ending (omega arith) in
      let before = round_rises p plan h legal opening k low in
      let next = opens_next p plan h legal (first + rounds) ending has.ends in
      let inside = entry_inside h k (entry.Steal by c threads reads) is in
      let within = has.within in
      let start : InStretch h first last opening = record { opening = opening; begins = rests.begins; not_before = omega arith; not_after = omega arith; there = omega arith } in
      let here : InStretch h first last k = record { opening = opening; begins = rests.begins; not_before = low; not_after = omega arith; there = omega arith } in
      absurd (let still = comes.nothing_moves first last opening k (entry.Steal by c threads reads) rests.stretch start here low rests.rest is in cc)

  turns : TurnsAtRest p plan h
  turns first last opening rounds ending x c rests there (t, contains, same) few has =
      let core : ModelCore = after p plan (take opening h) c in
      let none = none_current p plan h fits queues legal opening c in
      let queued : Contains core.queue t = subst (λ (o : Option Task). Contains (option_to_list o ++ core.queue) t) none contains in
      let place = place_of x core.queue t queued same in
      let count : thread_count core ≡ length core.queue = ap (λ (o : Option Task). length (option_to_list o ++ core.queue)) none in
      let units = rounds_have_units p plan h legal c there first opening rests.begins rounds ending has.ends in
      (waiting_law p plan h fits queues legal).runs_in_turn x c place.0 opening ending place.2 (none_stolen first last opening rounds ending x c rests has) (omega (arith, place.1))

pub turns_law : TurnsAtRestLaw
turns_law p plan h fits meets queues legal = turns p plan h fits meets queues legal
