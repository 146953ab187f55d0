-- The worked histories are whole, entry by entry.
use Rattle.std.proofs.Common.{[], ◌∷◌, refl, arith}
use Rattle.policy_eval.specs.Events.{holding_cases, outcomes_of, task_after_set}
use Rattle.policy_eval.specs.Sights.{core_values, event_values, pair_values, thread_values}
use Rattle.round_model.specs.After.{after_from, effect}
use Rattle.round_model.specs.Attempts.{attempt_of}
use Rattle.round_model.specs.Choices.{candidates_of, choice_of, target_of}
use Rattle.round_model.specs.Cores.{opening_state}
use Rattle.round_model.specs.Entries.{acts, touches}
use Rattle.round_model.specs.Legal.{LegalNext, Whole, is_complete, is_due}
use Rattle.round_model.specs.Moves.{core_after_event, handed_all, received_all, released}
use Rattle.round_model.specs.Scenes.{entering_next, scene_of, waking_next}
use Rattle.round_model.specs.Work.{worked}
use Rattle.round_model.specs.Rows.{Row}
use Rattle.round_model.proofs.Walks.{LegalFrom, legal_walk, reads_within}
use Rattle.model_tests.specs.Histories.{block_and_wake_history, one_core_history, stale_read_history, two_cores_history}
use Rattle.model_tests.specs.LegalRows.{WorkedAreWhole}
use Rattle.model_tests.specs.Plans.{block_and_wake, one_core, stale_read, two_cores}
use Rattle.fair_policy.specs.Fair.{fair_meaning as fair}
use Rattle.model_tests.specs.Policies.{basic}

one_core_steps : LegalFrom basic one_core [] one_core_history
unfolding LegalNext Row acts touches effect after_from attempt_of candidates_of choice_of target_of opening_state is_due is_complete core_after_event handed_all received_all released scene_of entering_next waking_next worked holding_cases outcomes_of task_after_set pair_values core_values thread_values event_values
one_core_steps = (
  record { complete = refl; due = refl; next = refl },
  (
    record { begun = omega arith; row = record { core = omega arith; next = refl; placement = record { read = refl; target = refl } } },
    (
      record { begun = omega arith; row = record { core = omega arith; entered = refl; woken = refl; first = refl; outcome = (0, omega arith, refl) } },
      (
        record { begun = omega arith; row = record { core = omega arith; worked = refl; first = refl; read = record { one_each = refl; each = reads_within 1 3 (3 ∷ []) refl }; outcome = refl } },
        (
          record { complete = refl; due = refl; next = refl },
          (
            record { begun = omega arith; row = record { core = omega arith; entered = refl; woken = refl; first = refl; outcome = (0, omega arith, refl) } },
            (
              record { begun = omega arith; row = record { core = omega arith; worked = refl; first = refl; read = record { one_each = refl; each = reads_within 5 6 (6 ∷ []) refl }; outcome = refl } },
              tt,
            ),
          ),
        ),
      ),
    ),
  ),
)

one_core_whole : Whole basic one_core one_core_history
unfolding acts touches effect after_from attempt_of candidates_of choice_of target_of opening_state is_due is_complete core_after_event handed_all received_all released scene_of entering_next waking_next worked holding_cases outcomes_of task_after_set pair_values core_values thread_values event_values
one_core_whole = record { legal = legal_walk basic one_core one_core_history one_core_steps; complete = refl; finished = refl }

two_cores_steps : LegalFrom basic two_cores [] two_cores_history
unfolding LegalNext Row acts touches effect after_from attempt_of candidates_of choice_of target_of opening_state is_due is_complete core_after_event handed_all received_all released scene_of entering_next waking_next worked holding_cases outcomes_of task_after_set pair_values core_values thread_values event_values
two_cores_steps = (
  record { complete = refl; due = refl; next = refl },
  (
    record { begun = omega arith; row = record { core = omega arith; next = refl; placement = record { read = refl; target = refl } } },
    (
      record { begun = omega arith; row = record { core = omega arith; next = refl; placement = record { read = refl; target = refl } } },
      (
        record { begun = omega arith; row = record { core = omega arith; entered = refl; woken = refl; first = refl; outcome = (0, omega arith, refl) } },
        (
          record { begun = omega arith; row = record { core = omega arith; worked = refl; first = refl; read = record { one_each = refl; each = reads_within 1 4 (4 ∷ 1 ∷ []) refl }; outcome = refl } },
          (
            record { begun = omega arith; row = record { core = omega arith; entered = refl; woken = refl; first = refl; outcome = (0, omega arith, refl) } },
            (
              record { begun = omega arith; row = record { core = omega arith; worked = refl; first = refl; read = record { one_each = refl; each = reads_within 1 6 (5 ∷ 6 ∷ []) refl }; outcome = refl } },
              tt,
            ),
          ),
        ),
      ),
    ),
  ),
)

two_cores_whole : Whole basic two_cores two_cores_history
unfolding acts touches effect after_from attempt_of candidates_of choice_of target_of opening_state is_due is_complete core_after_event handed_all received_all released scene_of entering_next waking_next worked holding_cases outcomes_of task_after_set pair_values core_values thread_values event_values
two_cores_whole = record { legal = legal_walk basic two_cores two_cores_history two_cores_steps; complete = refl; finished = refl }

stale_read_steps : LegalFrom basic stale_read [] stale_read_history
unfolding LegalNext Row acts touches effect after_from attempt_of candidates_of choice_of target_of opening_state is_due is_complete core_after_event handed_all received_all released scene_of entering_next waking_next worked holding_cases outcomes_of task_after_set pair_values core_values thread_values event_values
stale_read_steps = (
  record { complete = refl; due = refl; next = refl },
  (
    record { begun = omega arith; row = record { core = omega arith; next = refl; placement = record { read = refl; target = refl } } },
    (
      record { begun = omega arith; row = record { core = omega arith; next = refl; placement = record { read = refl; target = refl } } },
      (
        record { begun = omega arith; row = record { core = omega arith; entered = refl; woken = refl; first = refl; outcome = (0, omega arith, refl) } },
        (
          record { begun = omega arith; row = record { core = omega arith; worked = refl; first = refl; read = record { one_each = refl; each = reads_within 1 4 (4 ∷ 1 ∷ 1 ∷ []) refl }; outcome = refl } },
          (
            record { begun = omega arith; row = record { core = omega arith; entered = refl; woken = refl; first = refl; outcome = (0, omega arith, refl) } },
            (
              record { begun = omega arith; row = record { core = omega arith; entered = refl; woken = refl; first = refl; outcome = (0, omega arith, refl) } },
              (
                record { begun = omega arith; row = record { core = omega arith; worked = refl; first = refl; read = record { one_each = refl; each = reads_within 1 7 (5 ∷ 6 ∷ 1 ∷ []) refl }; outcome = refl } },
                (
                  record { begun = omega arith; row = record { core = omega arith; worked = refl; first = refl; read = record { one_each = refl; each = reads_within 1 8 (5 ∷ 6 ∷ 7 ∷ []) refl }; outcome = refl } },
                  tt,
                ),
              ),
            ),
          ),
        ),
      ),
    ),
  ),
)

stale_read_whole : Whole basic stale_read stale_read_history
unfolding acts touches effect after_from attempt_of candidates_of choice_of target_of opening_state is_due is_complete core_after_event handed_all received_all released scene_of entering_next waking_next worked holding_cases outcomes_of task_after_set pair_values core_values thread_values event_values
stale_read_whole = record { legal = legal_walk basic stale_read stale_read_history stale_read_steps; complete = refl; finished = refl }

block_and_wake_steps : LegalFrom fair block_and_wake [] block_and_wake_history
unfolding LegalNext Row acts touches effect after_from attempt_of candidates_of choice_of target_of opening_state is_due is_complete core_after_event handed_all received_all released scene_of entering_next waking_next worked holding_cases outcomes_of task_after_set pair_values core_values thread_values event_values
block_and_wake_steps = (
  record { complete = refl; due = refl; next = refl },
  (
    record { begun = omega arith; row = record { core = omega arith; next = refl; placement = record { read = record { one_each = refl; each = reads_within 1 1 (1 ∷ 1 ∷ []) refl }; target = refl } } },
    (
      record { begun = omega arith; row = record { core = omega arith; next = refl; placement = record { read = record { one_each = refl; each = reads_within 1 2 (2 ∷ 1 ∷ []) refl }; target = refl } } },
      (
        record { begun = omega arith; row = record { core = omega arith; entered = refl; woken = refl; first = refl; outcome = (0, omega arith, refl) } },
        (
          record { begun = omega arith; row = record { core = omega arith; worked = refl; first = refl; read = record { one_each = refl; each = reads_within 1 4 (4 ∷ 3 ∷ []) refl }; outcome = refl } },
          (
            record { begun = omega arith; row = record { core = omega arith; entered = refl; woken = refl; first = refl; outcome = (0, omega arith, refl) } },
            (
              record { begun = omega arith; row = record { core = omega arith; worked = refl; first = refl; read = record { one_each = refl; each = reads_within 1 6 (5 ∷ 6 ∷ []) refl }; outcome = refl } },
              (
                record { complete = refl; due = refl; next = refl },
                (
                  record { begun = omega arith; row = record { core = omega arith; entered = refl; next = refl; placement = record { read = record { one_each = refl; each = reads_within 8 8 (8 ∷ 8 ∷ []) refl }; target = refl } } },
                  (
                    record { begun = omega arith; row = record { core = omega arith; entered = refl; woken = refl; first = refl; outcome = (0, omega arith, refl) } },
                    (
                      record { begun = omega arith; row = record { core = omega arith; worked = refl; first = refl; read = record { one_each = refl; each = reads_within 8 10 (10 ∷ 8 ∷ []) refl }; outcome = refl } },
                      (
                        record { begun = omega arith; row = record { core = omega arith; entered = refl; woken = refl; first = refl; outcome = (0, omega arith, refl) } },
                        (
                          record { begun = omega arith; row = record { core = omega arith; worked = refl; first = refl; read = record { one_each = refl; each = reads_within 8 12 (11 ∷ 12 ∷ []) refl }; outcome = refl } },
                          tt,
                        ),
                      ),
                    ),
                  ),
                ),
              ),
            ),
          ),
        ),
      ),
    ),
  ),
)

block_and_wake_whole : Whole fair block_and_wake block_and_wake_history
unfolding acts touches effect after_from attempt_of candidates_of choice_of target_of opening_state is_due is_complete core_after_event handed_all received_all released scene_of entering_next waking_next worked holding_cases outcomes_of task_after_set pair_values core_values thread_values event_values
block_and_wake_whole = record { legal = legal_walk fair block_and_wake block_and_wake_history block_and_wake_steps; complete = refl; finished = refl }

pub worked_are_whole : WorkedAreWhole
worked_are_whole = record { one_core = one_core_whole; two_cores = two_cores_whole; stale_read = stale_read_whole; block_and_wake = block_and_wake_whole }
