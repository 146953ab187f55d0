-- The rows of serial play, each by computing.
use Rattle.std.proofs.Common.{refl}
use Rattle.policy_eval.specs.Events.{holding_cases, outcomes_of, task_after_set}
use Rattle.policy_eval.specs.Sights.{core_values, event_values, pair_values, thread_values}
use Rattle.round_model.specs.After.{after_from, effect}
use Rattle.round_model.specs.Attempts.{attempt_of}
use Rattle.round_model.specs.Choices.{candidates_of, choice_of, target_of}
use Rattle.round_model.specs.Cores.{opening_state}
use Rattle.round_model.specs.Entries.{acts, touches}
use Rattle.round_model.specs.Legal.{is_complete, is_due}
use Rattle.round_model.specs.Moves.{core_after_event, handed_all, received_all, released}
use Rattle.round_model.specs.Scenes.{entering_next, scene_of, waking_next}
use Rattle.round_model.specs.Work.{worked}
use Rattle.serial_steps.specs.TurnSteps.{turn_step_of}
use Rattle.serial_steps.specs.Serial.{step_of}
use Rattle.serial_steps.specs.SerialRounds.{with_round}
use Rattle.level_tests.specs.LevelPlans.{TakesFullest, TakesNear}

pub takes_near : TakesNear
unfolding with_round step_of turn_step_of acts touches effect after_from attempt_of candidates_of choice_of target_of opening_state is_due is_complete core_after_event handed_all received_all released scene_of entering_next waking_next worked holding_cases outcomes_of task_after_set pair_values core_values thread_values event_values
takes_near = record { entries = refl; last = refl }

pub takes_fullest : TakesFullest
unfolding with_round step_of turn_step_of acts touches effect after_from attempt_of candidates_of choice_of target_of opening_state is_due is_complete core_after_event handed_all received_all released scene_of entering_next waking_next worked holding_cases outcomes_of task_after_set pair_values core_values thread_values event_values
takes_fullest = record { entries = refl; last = refl }
