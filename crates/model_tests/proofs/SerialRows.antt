-- The rows of serial play, each by computing.
use Rattle.std.proofs.Common.{refl}
use Rattle.policy_eval.specs.Events.{holding_cases, outcomes_of, task_after_set}
use Rattle.policy_eval.specs.Sights.{core_values, event_values, pair_values, thread_values}
use Rattle.round_model.specs.After.{after_from, effect}
use Rattle.round_model.specs.Attempts.{attempt_of}
use Rattle.round_model.specs.Choices.{candidates_of, choice_of, target_of}
use Rattle.round_model.specs.Cores.{opening_state}
use Rattle.round_model.specs.Entries.{acts, touches}
use Rattle.round_model.specs.Legal.{is_complete, is_due}
use Rattle.round_model.specs.Moves.{core_after_event, handed_all, received_all, released}
use Rattle.round_model.specs.Scenes.{entering_next, scene_of, waking_next}
use Rattle.round_model.specs.Work.{worked}
use Rattle.round_model.specs.Spread.{spread}
use Rattle.serial_steps.specs.TurnSteps.{turn_step_of}
use Rattle.serial_steps.specs.Serial.{step_of}
use Rattle.serial_steps.specs.SerialRounds.{with_round}
use Rattle.model_tests.specs.SerialRows.{EightThreadsSpread, FairBlocksAndWakes, OneCoreTwoUnits, StaleReadFails, TwoCoresOneSteal}

pub one_core_two_units : OneCoreTwoUnits
unfolding with_round step_of turn_step_of spread acts touches effect after_from attempt_of candidates_of choice_of target_of opening_state is_due is_complete core_after_event handed_all received_all released scene_of entering_next waking_next worked holding_cases outcomes_of task_after_set pair_values core_values thread_values event_values
one_core_two_units = refl

pub two_cores_one_steal : TwoCoresOneSteal
unfolding with_round step_of turn_step_of spread acts touches effect after_from attempt_of candidates_of choice_of target_of opening_state is_due is_complete core_after_event handed_all received_all released scene_of entering_next waking_next worked holding_cases outcomes_of task_after_set pair_values core_values thread_values event_values
two_cores_one_steal = refl

pub stale_read_fails : StaleReadFails
unfolding with_round step_of turn_step_of spread acts touches effect after_from attempt_of candidates_of choice_of target_of opening_state is_due is_complete core_after_event handed_all received_all released scene_of entering_next waking_next worked holding_cases outcomes_of task_after_set pair_values core_values thread_values event_values
stale_read_fails = refl

pub fair_blocks_and_wakes : FairBlocksAndWakes
unfolding with_round step_of turn_step_of spread acts touches effect after_from attempt_of candidates_of choice_of target_of opening_state is_due is_complete core_after_event handed_all received_all released scene_of entering_next waking_next worked holding_cases outcomes_of task_after_set pair_values core_values thread_values event_values
fair_blocks_and_wakes = refl

pub eight_threads_spread : EightThreadsSpread
unfolding with_round step_of turn_step_of spread acts touches effect after_from attempt_of candidates_of choice_of target_of opening_state is_due is_complete core_after_event handed_all received_all released scene_of entering_next waking_next worked holding_cases outcomes_of task_after_set pair_values core_values thread_values event_values
eight_threads_spread = record { plays = refl; entries = refl; second = refl; third = refl; fourth = refl; spreads = refl }
