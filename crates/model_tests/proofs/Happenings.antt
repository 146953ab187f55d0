-- The rows of events and order lines, by computing.
use Rattle.std.proofs.Common.{◌≡◌, zero, suc, [], ◌∷◌, Contains, refl, arith}
use Rattle.policy_eval.specs.Events.{holding_cases, outcomes_of, task_after_set}
use Rattle.policy_eval.specs.Sights.{core_values, event_values, pair_values, thread_values}
use Rattle.round_model.specs.declared.entry.Did.{Did}
use Rattle.round_model.specs.declared.entry.Did.TheVariants as did
use Rattle.round_model.specs.After.{after_from, effect}
use Rattle.round_model.specs.Attempts.{attempt_of}
use Rattle.round_model.specs.Choices.{candidates_of, choice_of, target_of}
use Rattle.round_model.specs.Cores.{opening_state}
use Rattle.round_model.specs.Entries.{acts, touches}
use Rattle.round_model.specs.Legal.{LegalNext, is_complete, is_due}
use Rattle.round_model.specs.Moves.{core_after_event, handed_all, received_all, released}
use Rattle.round_model.specs.Rows.{Row}
use Rattle.round_model.specs.Scenes.{entering_next, scene_of, waking_next}
use Rattle.round_model.specs.Work.{worked}
use Rattle.serial_steps.specs.TurnSteps.{turn_step_of}
use Rattle.serial_steps.specs.Serial.{step_of}
use Rattle.serial_steps.specs.SerialRounds.{with_round}
use Rattle.model_tests.specs.EventRows.{GapsAndOverlaps, OverNumbersArePassedOver, Saturates, TiesGoToTheLowest, YieldGoesToTheQueue}

pub yield_goes_to_the_queue : YieldGoesToTheQueue
unfolding LegalNext Row with_round step_of turn_step_of acts touches effect after_from attempt_of candidates_of choice_of target_of opening_state is_due is_complete core_after_event handed_all received_all released scene_of entering_next waking_next worked holding_cases outcomes_of task_after_set pair_values core_values thread_values event_values
yield_goes_to_the_queue = refl

-- of no words none is right, and of two no third
no_word : (d : Did) → Contains [] d → ⊥
no_word d (k, inside, is) = omega arith

two_words : (a b d : Did) → Contains (a ∷ b ∷ []) d → (a ≡ d → ⊥) → (b ≡ d → ⊥) → ⊥
two_words a b d (zero, inside, is) first second = first is
two_words a b d (suc zero, inside, is) first second = second is
two_words a b d (suc (suc k), inside, is) first second = omega arith

pub gaps_and_overlaps : GapsAndOverlaps
unfolding LegalNext Row with_round step_of turn_step_of acts touches effect after_from attempt_of candidates_of choice_of target_of opening_state is_due is_complete core_after_event handed_all received_all released scene_of entering_next waking_next worked holding_cases outcomes_of task_after_set pair_values core_values thread_values event_values
gaps_and_overlaps = record {
  gap_loses = refl;
  gap_says_nothing = λ d r. no_word d r.row.outcome;
  overlap_doubles = refl;
  overlap_says_kept = record { begun = omega arith; row = record { core = omega arith; entered = refl; woken = refl; first = refl; outcome = (0, omega arith, refl) } };
  overlap_says_queued = record { begun = omega arith; row = record { core = omega arith; entered = refl; woken = refl; first = refl; outcome = (1, omega arith, refl) } };
  overlap_says_no_other = λ r. two_words (did.Kept 1) (did.Queued 1) (did.Ended 1) r.row.outcome (λ e. cc) (λ e. cc);
}

pub saturates : Saturates
unfolding LegalNext Row with_round step_of turn_step_of acts touches effect after_from attempt_of candidates_of choice_of target_of opening_state is_due is_complete core_after_event handed_all received_all released scene_of entering_next waking_next worked holding_cases outcomes_of task_after_set pair_values core_values thread_values event_values
saturates = record { within = refl; at_the_end = refl }

pub over_numbers_are_passed_over : OverNumbersArePassedOver
unfolding LegalNext Row with_round step_of turn_step_of acts touches effect after_from attempt_of candidates_of choice_of target_of opening_state is_due is_complete core_after_event handed_all received_all released scene_of entering_next waking_next worked holding_cases outcomes_of task_after_set pair_values core_values thread_values event_values
over_numbers_are_passed_over = refl

pub ties_go_to_the_lowest : TiesGoToTheLowest
unfolding LegalNext Row with_round step_of turn_step_of acts touches effect after_from attempt_of candidates_of choice_of target_of opening_state is_due is_complete core_after_event handed_all received_all released scene_of entering_next waking_next worked holding_cases outcomes_of task_after_set pair_values core_values thread_values event_values
ties_go_to_the_lowest = record { by_the_last = refl; by_the_first = refl }
