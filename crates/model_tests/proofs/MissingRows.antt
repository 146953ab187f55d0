-- The entries that miss, each by the field that fails.
use Rattle.std.proofs.Common.{◌≡◌, ℕ, [], ◌∷◌, arith, Contains, ap, sym, ◌∙◌, get_or}
use Rattle.policy_eval.specs.Events.{holding_cases, outcomes_of, task_after_set}
use Rattle.policy_eval.specs.Sights.{core_values, event_values, pair_values, thread_values}
use Rattle.round_model.specs.After.{after_from, effect}
use Rattle.round_model.specs.Attempts.{attempt_of}
use Rattle.round_model.specs.Choices.{candidates_of, choice_of, target_of}
use Rattle.round_model.specs.Cores.{opening_state}
use Rattle.round_model.specs.Entries.{acts, touches}
use Rattle.round_model.specs.Legal.{LegalNext, is_complete, is_due}
use Rattle.round_model.specs.Moves.{core_after_event, handed_all, received_all, released}
use Rattle.round_model.specs.Scenes.{entering_next, scene_of, waking_next}
use Rattle.round_model.specs.Work.{worked}
use Rattle.round_model.specs.declared.entry.Did.{Did}
use Rattle.round_model.specs.declared.entry.Did.TheVariants as did
use Rattle.round_model.specs.Rows.{Row}
use Rattle.model_tests.specs.LegalRows.{NotWhole, OtherMisses, TwoCoresMisses}

-- where one word may be said, no other is right
one_word : (a b : Did) → Contains (a ∷ []) b → (a ≡ b → ⊥) → ⊥
one_word a b (k, inside, is) other = let first : k ≡ 0 = omega arith in other (ap (λ j. get_or (a ∷ []) j b) (sym first) ∙ is)

pub two_cores_misses : TwoCoresMisses
unfolding LegalNext Row acts touches effect after_from attempt_of candidates_of choice_of target_of opening_state is_due is_complete core_after_event handed_all received_all released scene_of entering_next waking_next worked holding_cases outcomes_of task_after_set pair_values core_values thread_values event_values
two_cores_misses = record {
  enters_before_a_round = λ r. absurd (let begun = r.begun in omega arith);
  begins_with_round_2 = λ r. absurd (let next = r.next in omega arith);
  enters_out_of_order = λ r. absurd (let next = r.row.next in omega arith);
  enters_elsewhere = λ r. absurd (let target = r.row.placement.target in cc);
  enters_by_another_core = λ r. absurd r.row.next;
  enters_twice = λ r. absurd (let next = r.row.next in omega arith);
  works_before_all_entered = λ r. absurd (let entered = r.row.entered in cc);
  says_queued_for_kept = λ r. absurd (one_word (did.Kept 1) (did.Queued 1) r.row.outcome (λ e. cc));
  attempts_before_working = λ r. absurd (let worked = r.row.worked in cc);
  works_twice = λ r. absurd (let first = r.row.first in cc);
  acts_as_a_core_that_is_not_there = λ r. absurd (let there = r.row.core in omega arith);
  passes_over_a_candidate = λ r. absurd (let outcome = r.row.outcome in cc);
  fails_where_a_steal_is_due = λ r. absurd (let outcome = r.row.outcome in cc);
  steals_the_current_thread = λ r. absurd (let outcome = r.row.outcome in let same : ◌≡◌ {A = ℕ} 1 2 = cc in omega arith);
  reads_what_is_to_come = λ r. absurd (let read = (r.row.read.each 1 0 (omega arith)).before_entry in omega arith);
  reads_one_core_alone = λ r. absurd (let read = r.row.read.one_each in omega arith);
  begins_a_round_too_many = λ r. absurd (let due = r.due in cc);
  attempts_twice = λ r. absurd (let first = r.row.first in cc);
}

pub other_misses : OtherMisses
unfolding LegalNext Row acts touches effect after_from attempt_of candidates_of choice_of target_of opening_state is_due is_complete core_after_event handed_all received_all released scene_of entering_next waking_next worked holding_cases outcomes_of task_after_set pair_values core_values thread_values event_values
other_misses = record {
  wakes_late = λ r. absurd (let woken = r.row.woken in cc);
  wakes_another = λ r. absurd (let next = r.row.next in omega arith);
  wakes_in_its_round = λ r. absurd r.row.next;
  places_on_the_greater_load = λ r. absurd (let target = r.row.placement.target in let same : ◌≡◌ {A = ℕ} 1 0 = cc in omega arith);
  places_without_reads = λ r. absurd (let read = r.row.placement.read.one_each in omega arith);
  begins_a_round_too_soon = λ r. absurd (let complete = r.complete in cc);
  reads_the_round_before = λ r. absurd (let read = (r.row.read.each 0 0 (omega arith)).in_round in omega arith);
  steals_by_a_stale_read = λ r. absurd (let outcome = r.row.outcome in cc);
  sees_the_steal_and_fails = λ r. absurd (let outcome = r.row.outcome in cc);
  wakes_with_a_thread_to_let_in = λ r. absurd (let entered = r.row.entered in cc);
  goes_on_after_the_end = λ r. absurd (let due = r.due in cc);
}

pub not_whole : NotWhole
unfolding acts is_due is_complete
not_whole = record {
  round_is_open = λ w. absurd (let complete = w.complete in cc);
  round_is_due = λ w. absurd (let finished = w.finished in cc);
}
