-- The rows of batched steals, each by computing.
use Rattle.std.proofs.Common.{refl}
use Rattle.policy_eval.specs.Events.{holding_cases, outcomes_of, task_after_set}
use Rattle.policy_eval.specs.Sights.{core_values, event_values, move_values, pair_values, thread_values}
use Rattle.round_model.specs.After.{after_from, effect}
use Rattle.round_model.specs.Attempts.{attempt_of, further_moves, next_of}
use Rattle.round_model.specs.Choices.{candidates_of, choice_of, target_of}
use Rattle.round_model.specs.Cores.{opening_state}
use Rattle.round_model.specs.Entries.{acts, touches}
use Rattle.round_model.specs.Legal.{LegalNext, is_complete, is_due}
use Rattle.round_model.specs.Moves.{core_after_event, handed, handed_all, received, received_all, released}
use Rattle.round_model.specs.Rows.{Row}
use Rattle.round_model.specs.Scenes.{entering_next, scene_of, waking_next}
use Rattle.round_model.specs.Work.{worked}
use Rattle.round_model.specs.Spread.{spread}
use Rattle.serial_steps.specs.TurnSteps.{turn_step_of}
use Rattle.serial_steps.specs.Serial.{step_of}
use Rattle.serial_steps.specs.SerialRounds.{with_round}
use Rattle.model_tests.specs.BatchRows.{BatchMisses, BatchesOfThreads, BatchesOfWeights}

pub batches_of_threads : BatchesOfThreads
unfolding with_round step_of turn_step_of spread acts touches effect after_from attempt_of next_of further_moves candidates_of choice_of target_of opening_state is_due is_complete core_after_event handed handed_all received received_all released scene_of entering_next waking_next worked holding_cases outcomes_of task_after_set pair_values core_values thread_values event_values move_values
batches_of_threads = record { of_eight = refl; of_two = refl; of_one = refl; of_a_busy_thief = refl; without = refl }

pub batches_of_weights : BatchesOfWeights
unfolding with_round step_of turn_step_of spread acts touches effect after_from attempt_of next_of further_moves candidates_of choice_of target_of opening_state is_due is_complete core_after_event handed handed_all received received_all released scene_of entering_next waking_next worked holding_cases outcomes_of task_after_set pair_values core_values thread_values event_values move_values
batches_of_weights = record { of_eight = refl; of_one = refl; runs_empty = refl }

pub batch_misses : BatchMisses
unfolding LegalNext Row acts touches effect after_from attempt_of next_of further_moves candidates_of choice_of target_of opening_state is_due is_complete core_after_event handed handed_all received received_all released scene_of entering_next waking_next worked holding_cases outcomes_of task_after_set pair_values core_values thread_values event_values move_values
batch_misses = record {
  three_by_a_limit_of_two = λ r. absurd (let outcome = r.row.outcome in cc);
  two_by_a_limit_of_eight = λ r. absurd (let outcome = r.row.outcome in cc);
  one_too_many = λ r. absurd (let outcome = r.row.outcome in cc);
  in_another_order = λ r. absurd (let outcome = r.row.outcome in cc);
  the_current_thread = λ r. absurd (let outcome = r.row.outcome in cc);
  one_thread_twice = λ r. absurd (let outcome = r.row.outcome in cc);
  of_the_thief_itself = λ r. absurd (let outcome = r.row.outcome in cc);
  of_weights_in_another_order = λ r. absurd (let outcome = r.row.outcome in cc);
}
