-- Worked histories whose cores come to rest.
use Rattle.std.proofs.Common.{[], ◌∷◌, refl, arith}
use Rattle.policy_eval.specs.Events.{holding_cases, outcomes_of, task_after_set}
use Rattle.policy_eval.specs.Sights.{core_values, event_values, pair_values, thread_values}
use Rattle.round_model.specs.After.{after_from, effect}
use Rattle.round_model.specs.Attempts.{attempt_of}
use Rattle.round_model.specs.Choices.{candidates_of, choice_of, target_of}
use Rattle.round_model.specs.Cores.{opening_state}
use Rattle.round_model.specs.Entries.{acts, touches}
use Rattle.round_model.specs.Legal.{LegalNext, is_complete, is_due}
use Rattle.round_model.specs.Moves.{core_after_event, handed, handed_all, received, received_all, released}
use Rattle.round_model.specs.Rows.{Row}
use Rattle.round_model.specs.Scenes.{entering_next, scene_of, waking_next}
use Rattle.round_model.specs.Spread.{idle_count, spread}
use Rattle.round_model.specs.Work.{worked}
use Rattle.round_model.proofs.Stillness.{still_by_test}
use Rattle.round_model.proofs.Walks.{LegalFrom, legal_walk, reads_within}
use Rattle.rest_laws.specs.LowestFirst.{above}
use Rattle.sched_report.specs.Rests.{gap_at_rest}
use Rattle.sched_report.specs.RoundRows.{round_row}
use Rattle.model_tests.specs.Policies.{basic}
use Rattle.row_tests.specs.Rests.{ChainTakesFour, RestBoundMet, RestIsLeft, chain, chain_history, chain_plan, late_threads, left_history, met_history, two_rounds}

met_steps : LegalFrom basic two_rounds [] met_history
unfolding LegalNext Row acts touches effect after_from attempt_of candidates_of choice_of target_of opening_state is_due is_complete core_after_event handed handed_all received received_all released scene_of entering_next waking_next worked holding_cases outcomes_of task_after_set pair_values core_values thread_values event_values
met_steps = (
  record { complete = refl; due = refl; next = refl },
  (
    record { begun = omega arith; row = record { core = omega arith; entered = refl; woken = refl; first = refl; outcome = (0, omega arith, refl) } },
    (
      record { begun = omega arith; row = record { core = omega arith; worked = refl; first = refl; read = record { one_each = refl; each = reads_within 1 2 (2 ∷ 2 ∷ []) refl }; outcome = refl } },
      (
        record { begun = omega arith; row = record { core = omega arith; next = refl; placement = record { read = refl; target = refl } } },
        (
          record { begun = omega arith; row = record { core = omega arith; next = refl; placement = record { read = refl; target = refl } } },
          (
            record { begun = omega arith; row = record { core = omega arith; entered = refl; woken = refl; first = refl; outcome = (0, omega arith, refl) } },
            (
              record { begun = omega arith; row = record { core = omega arith; worked = refl; first = refl; read = record { one_each = refl; each = reads_within 1 6 (6 ∷ 6 ∷ []) refl }; outcome = refl } },
              (
                record { complete = refl; due = refl; next = refl },
                (
                  record { begun = omega arith; row = record { core = omega arith; entered = refl; woken = refl; first = refl; outcome = (0, omega arith, refl) } },
                  (
                    record { begun = omega arith; row = record { core = omega arith; worked = refl; first = refl; read = record { one_each = refl; each = reads_within 8 9 (9 ∷ 9 ∷ []) refl }; outcome = refl } },
                    (
                      record { begun = omega arith; row = record { core = omega arith; entered = refl; woken = refl; first = refl; outcome = (0, omega arith, refl) } },
                      (
                        record { begun = omega arith; row = record { core = omega arith; worked = refl; first = refl; read = record { one_each = refl; each = reads_within 8 11 (11 ∷ 11 ∷ []) refl }; outcome = refl } },
                        (
                          record { complete = refl; due = refl; next = refl },
                          (
                            record { begun = omega arith; row = record { core = omega arith; entered = refl; woken = refl; first = refl; outcome = (0, omega arith, refl) } },
                            (
                              record { begun = omega arith; row = record { core = omega arith; worked = refl; first = refl; read = record { one_each = refl; each = reads_within 13 14 (14 ∷ 14 ∷ []) refl }; outcome = refl } },
                              (
                                record { begun = omega arith; row = record { core = omega arith; entered = refl; woken = refl; first = refl; outcome = (0, omega arith, refl) } },
                                (
                                  record { begun = omega arith; row = record { core = omega arith; worked = refl; first = refl; read = record { one_each = refl; each = reads_within 13 16 (16 ∷ 16 ∷ []) refl }; outcome = refl } },
                                  tt,
                                ),
                              ),
                            ),
                          ),
                        ),
                      ),
                    ),
                  ),
                ),
              ),
            ),
          ),
        ),
      ),
    ),
  ),
)

pub rest_bound_met : RestBoundMet
unfolding round_row gap_at_rest idle_count spread acts touches effect after_from attempt_of candidates_of choice_of target_of opening_state is_due is_complete core_after_event handed handed_all received received_all released scene_of entering_next waking_next worked holding_cases outcomes_of task_after_set pair_values core_values thread_values event_values
rest_bound_met = record {
  legal = legal_walk basic two_rounds met_history met_steps;
  stretch = record { positive = omega arith; ordered = omega arith; begun = omega arith; still = still_by_test met_history 2 3 refl };
  rests = refl;
  spread = refl;
}

left_steps : LegalFrom basic late_threads [] left_history
unfolding LegalNext Row acts touches effect after_from attempt_of candidates_of choice_of target_of opening_state is_due is_complete core_after_event handed handed_all received received_all released scene_of entering_next waking_next worked holding_cases outcomes_of task_after_set pair_values core_values thread_values event_values
left_steps = (
  record { complete = refl; due = refl; next = refl },
  (
    record { begun = omega arith; row = record { core = omega arith; next = refl; placement = record { read = refl; target = refl } } },
    (
      record { begun = omega arith; row = record { core = omega arith; entered = refl; woken = refl; first = refl; outcome = (0, omega arith, refl) } },
      (
        record { begun = omega arith; row = record { core = omega arith; worked = refl; first = refl; read = record { one_each = refl; each = reads_within 1 3 (3 ∷ 3 ∷ []) refl }; outcome = refl } },
        (
          record { begun = omega arith; row = record { core = omega arith; next = refl; placement = record { read = refl; target = refl } } },
          (
            record { begun = omega arith; row = record { core = omega arith; entered = refl; woken = refl; first = refl; outcome = (0, omega arith, refl) } },
            (
              record { begun = omega arith; row = record { core = omega arith; worked = refl; first = refl; read = record { one_each = refl; each = reads_within 1 6 (6 ∷ 6 ∷ []) refl }; outcome = refl } },
              (
                record { complete = refl; due = refl; next = refl },
                (
                  record { begun = omega arith; row = record { core = omega arith; entered = refl; woken = refl; first = refl; outcome = (0, omega arith, refl) } },
                  (
                    record { begun = omega arith; row = record { core = omega arith; worked = refl; first = refl; read = record { one_each = refl; each = reads_within 8 9 (9 ∷ 9 ∷ []) refl }; outcome = refl } },
                    (
                      record { begun = omega arith; row = record { core = omega arith; entered = refl; woken = refl; first = refl; outcome = (0, omega arith, refl) } },
                      (
                        record { begun = omega arith; row = record { core = omega arith; worked = refl; first = refl; read = record { one_each = refl; each = reads_within 8 11 (11 ∷ 11 ∷ []) refl }; outcome = refl } },
                        (
                          record { complete = refl; due = refl; next = refl },
                          (
                            record { begun = omega arith; row = record { core = omega arith; entered = refl; woken = refl; first = refl; outcome = (0, omega arith, refl) } },
                            (
                              record { begun = omega arith; row = record { core = omega arith; worked = refl; first = refl; read = record { one_each = refl; each = reads_within 13 14 (14 ∷ 14 ∷ []) refl }; outcome = refl } },
                              (
                                record { begun = omega arith; row = record { core = omega arith; next = refl; placement = record { read = refl; target = refl } } },
                                (
                                  record { begun = omega arith; row = record { core = omega arith; next = refl; placement = record { read = refl; target = refl } } },
                                  (
                                    record { begun = omega arith; row = record { core = omega arith; entered = refl; woken = refl; first = refl; outcome = (0, omega arith, refl) } },
                                    (
                                      record { begun = omega arith; row = record { core = omega arith; worked = refl; first = refl; read = record { one_each = refl; each = reads_within 13 18 (18 ∷ 18 ∷ []) refl }; outcome = refl } },
                                      (
                                        record { complete = refl; due = refl; next = refl },
                                        (
                                          record { begun = omega arith; row = record { core = omega arith; entered = refl; woken = refl; first = refl; outcome = (0, omega arith, refl) } },
                                          (
                                            record { begun = omega arith; row = record { core = omega arith; worked = refl; first = refl; read = record { one_each = refl; each = reads_within 20 21 (21 ∷ 21 ∷ []) refl }; outcome = refl } },
                                            (
                                              record { begun = omega arith; row = record { core = omega arith; entered = refl; woken = refl; first = refl; outcome = (0, omega arith, refl) } },
                                              (
                                                record { begun = omega arith; row = record { core = omega arith; worked = refl; first = refl; read = record { one_each = refl; each = reads_within 20 23 (23 ∷ 23 ∷ []) refl }; outcome = refl } },
                                                (
                                                  record { complete = refl; due = refl; next = refl },
                                                  (
                                                    record { begun = omega arith; row = record { core = omega arith; entered = refl; woken = refl; first = refl; outcome = (0, omega arith, refl) } },
                                                    (
                                                      record { begun = omega arith; row = record { core = omega arith; worked = refl; first = refl; read = record { one_each = refl; each = reads_within 25 26 (26 ∷ 26 ∷ []) refl }; outcome = refl } },
                                                      (
                                                        record { begun = omega arith; row = record { core = omega arith; entered = refl; woken = refl; first = refl; outcome = (0, omega arith, refl) } },
                                                        (
                                                          record { begun = omega arith; row = record { core = omega arith; worked = refl; first = refl; read = record { one_each = refl; each = reads_within 25 28 (28 ∷ 28 ∷ []) refl }; outcome = refl } },
                                                          tt,
                                                        ),
                                                      ),
                                                    ),
                                                  ),
                                                ),
                                              ),
                                            ),
                                          ),
                                        ),
                                      ),
                                    ),
                                  ),
                                ),
                              ),
                            ),
                          ),
                        ),
                      ),
                    ),
                  ),
                ),
              ),
            ),
          ),
        ),
      ),
    ),
  ),
)

pub rest_is_left : RestIsLeft
unfolding round_row gap_at_rest idle_count spread acts touches effect after_from attempt_of candidates_of choice_of target_of opening_state is_due is_complete core_after_event handed handed_all received received_all released scene_of entering_next waking_next worked holding_cases outcomes_of task_after_set pair_values core_values thread_values event_values
rest_is_left = record {
  legal = legal_walk basic late_threads left_history left_steps;
  rests = refl;
  stretch = record { positive = omega arith; ordered = omega arith; begun = omega arith; still = still_by_test left_history 4 5 refl };
}

chain_steps : LegalFrom chain chain_plan [] chain_history
unfolding LegalNext Row acts touches effect after_from attempt_of candidates_of choice_of target_of opening_state is_due is_complete core_after_event handed handed_all received received_all released scene_of entering_next waking_next worked holding_cases outcomes_of task_after_set pair_values core_values thread_values event_values
chain_steps = (
  record { complete = refl; due = refl; next = refl },
  (
    record { begun = omega arith; row = record { core = omega arith; next = refl; placement = record { read = refl; target = refl } } },
    (
      record { begun = omega arith; row = record { core = omega arith; entered = refl; woken = refl; first = refl; outcome = (0, omega arith, refl) } },
      (
        record { begun = omega arith; row = record { core = omega arith; worked = refl; first = refl; read = record { one_each = refl; each = reads_within 1 3 (3 ∷ 3 ∷ 3 ∷ 3 ∷ []) refl }; outcome = refl } },
        (
          record { begun = omega arith; row = record { core = omega arith; next = refl; placement = record { read = refl; target = refl } } },
          (
            record { begun = omega arith; row = record { core = omega arith; entered = refl; woken = refl; first = refl; outcome = (0, omega arith, refl) } },
            (
              record { begun = omega arith; row = record { core = omega arith; worked = refl; first = refl; read = record { one_each = refl; each = reads_within 1 6 (6 ∷ 6 ∷ 6 ∷ 6 ∷ []) refl }; outcome = refl } },
              (
                record { begun = omega arith; row = record { core = omega arith; next = refl; placement = record { read = refl; target = refl } } },
                (
                  record { begun = omega arith; row = record { core = omega arith; next = refl; placement = record { read = refl; target = refl } } },
                  (
                    record { begun = omega arith; row = record { core = omega arith; next = refl; placement = record { read = refl; target = refl } } },
                    (
                      record { begun = omega arith; row = record { core = omega arith; next = refl; placement = record { read = refl; target = refl } } },
                      (
                        record { begun = omega arith; row = record { core = omega arith; next = refl; placement = record { read = refl; target = refl } } },
                        (
                          record { begun = omega arith; row = record { core = omega arith; next = refl; placement = record { read = refl; target = refl } } },
                          (
                            record { begun = omega arith; row = record { core = omega arith; entered = refl; woken = refl; first = refl; outcome = (0, omega arith, refl) } },
                            (
                              record { begun = omega arith; row = record { core = omega arith; worked = refl; first = refl; read = record { one_each = refl; each = reads_within 1 14 (14 ∷ 14 ∷ 14 ∷ 14 ∷ []) refl }; outcome = refl } },
                              (
                                record { begun = omega arith; row = record { core = omega arith; next = refl; placement = record { read = refl; target = refl } } },
                                (
                                  record { begun = omega arith; row = record { core = omega arith; entered = refl; woken = refl; first = refl; outcome = (0, omega arith, refl) } },
                                  (
                                    record { begun = omega arith; row = record { core = omega arith; worked = refl; first = refl; read = record { one_each = refl; each = reads_within 1 17 (17 ∷ 17 ∷ 17 ∷ 17 ∷ []) refl }; outcome = refl } },
                                    (
                                      record { complete = refl; due = refl; next = refl },
                                      (
                                        record { begun = omega arith; row = record { core = omega arith; entered = refl; woken = refl; first = refl; outcome = (0, omega arith, refl) } },
                                        (
                                          record { begun = omega arith; row = record { core = omega arith; worked = refl; first = refl; read = record { one_each = refl; each = reads_within 19 20 (20 ∷ 20 ∷ 20 ∷ 20 ∷ []) refl }; outcome = refl } },
                                          (
                                            record { begun = omega arith; row = record { core = omega arith; entered = refl; woken = refl; first = refl; outcome = (0, omega arith, refl) } },
                                            (
                                              record { begun = omega arith; row = record { core = omega arith; worked = refl; first = refl; read = record { one_each = refl; each = reads_within 19 22 (22 ∷ 22 ∷ 22 ∷ 22 ∷ []) refl }; outcome = refl } },
                                              (
                                                record { begun = omega arith; row = record { core = omega arith; entered = refl; woken = refl; first = refl; outcome = (0, omega arith, refl) } },
                                                (
                                                  record { begun = omega arith; row = record { core = omega arith; worked = refl; first = refl; read = record { one_each = refl; each = reads_within 19 24 (24 ∷ 24 ∷ 24 ∷ 24 ∷ []) refl }; outcome = refl } },
                                                  (
                                                    record { begun = omega arith; row = record { core = omega arith; entered = refl; woken = refl; first = refl; outcome = (0, omega arith, refl) } },
                                                    (
                                                      record { begun = omega arith; row = record { core = omega arith; worked = refl; first = refl; read = record { one_each = refl; each = reads_within 19 26 (26 ∷ 26 ∷ 26 ∷ 26 ∷ []) refl }; outcome = refl } },
                                                      (
                                                        record { complete = refl; due = refl; next = refl },
                                                        (
                                                          record { begun = omega arith; row = record { core = omega arith; entered = refl; woken = refl; first = refl; outcome = (0, omega arith, refl) } },
                                                          (
                                                            record { begun = omega arith; row = record { core = omega arith; worked = refl; first = refl; read = record { one_each = refl; each = reads_within 28 29 (29 ∷ 29 ∷ 29 ∷ 29 ∷ []) refl }; outcome = refl } },
                                                            (
                                                              record { begun = omega arith; row = record { core = omega arith; entered = refl; woken = refl; first = refl; outcome = (0, omega arith, refl) } },
                                                              (
                                                                record { begun = omega arith; row = record { core = omega arith; worked = refl; first = refl; read = record { one_each = refl; each = reads_within 28 31 (31 ∷ 31 ∷ 31 ∷ 31 ∷ []) refl }; outcome = refl } },
                                                                (
                                                                  record { begun = omega arith; row = record { core = omega arith; entered = refl; woken = refl; first = refl; outcome = (0, omega arith, refl) } },
                                                                  (
                                                                    record { begun = omega arith; row = record { core = omega arith; worked = refl; first = refl; read = record { one_each = refl; each = reads_within 28 33 (33 ∷ 33 ∷ 33 ∷ 33 ∷ []) refl }; outcome = refl } },
                                                                    (
                                                                      record { begun = omega arith; row = record { core = omega arith; entered = refl; woken = refl; first = refl; outcome = (0, omega arith, refl) } },
                                                                      (
                                                                        record { begun = omega arith; row = record { core = omega arith; worked = refl; first = refl; read = record { one_each = refl; each = reads_within 28 35 (35 ∷ 35 ∷ 35 ∷ 35 ∷ []) refl }; outcome = refl } },
                                                                        (
                                                                          record { complete = refl; due = refl; next = refl },
                                                                          (
                                                                            record { begun = omega arith; row = record { core = omega arith; entered = refl; woken = refl; first = refl; outcome = (0, omega arith, refl) } },
                                                                            (
                                                                              record { begun = omega arith; row = record { core = omega arith; worked = refl; first = refl; read = record { one_each = refl; each = reads_within 37 38 (38 ∷ 38 ∷ 38 ∷ 38 ∷ []) refl }; outcome = refl } },
                                                                              (
                                                                                record { begun = omega arith; row = record { core = omega arith; entered = refl; woken = refl; first = refl; outcome = (0, omega arith, refl) } },
                                                                                (
                                                                                  record { begun = omega arith; row = record { core = omega arith; worked = refl; first = refl; read = record { one_each = refl; each = reads_within 37 40 (40 ∷ 40 ∷ 40 ∷ 40 ∷ []) refl }; outcome = refl } },
                                                                                  (
                                                                                    record { begun = omega arith; row = record { core = omega arith; entered = refl; woken = refl; first = refl; outcome = (0, omega arith, refl) } },
                                                                                    (
                                                                                      record { begun = omega arith; row = record { core = omega arith; worked = refl; first = refl; read = record { one_each = refl; each = reads_within 37 42 (42 ∷ 42 ∷ 42 ∷ 42 ∷ []) refl }; outcome = refl } },
                                                                                      (
                                                                                        record { begun = omega arith; row = record { core = omega arith; entered = refl; woken = refl; first = refl; outcome = (0, omega arith, refl) } },
                                                                                        (
                                                                                          record { begun = omega arith; row = record { core = omega arith; worked = refl; first = refl; read = record { one_each = refl; each = reads_within 37 44 (44 ∷ 44 ∷ 44 ∷ 44 ∷ []) refl }; outcome = refl } },
                                                                                          (
                                                                                            record { complete = refl; due = refl; next = refl },
                                                                                            (
                                                                                              record { begun = omega arith; row = record { core = omega arith; entered = refl; woken = refl; first = refl; outcome = (0, omega arith, refl) } },
                                                                                              (
                                                                                                record { begun = omega arith; row = record { core = omega arith; worked = refl; first = refl; read = record { one_each = refl; each = reads_within 46 47 (47 ∷ 47 ∷ 47 ∷ 47 ∷ []) refl }; outcome = refl } },
                                                                                                (
                                                                                                  record { begun = omega arith; row = record { core = omega arith; entered = refl; woken = refl; first = refl; outcome = (0, omega arith, refl) } },
                                                                                                  (
                                                                                                    record { begun = omega arith; row = record { core = omega arith; worked = refl; first = refl; read = record { one_each = refl; each = reads_within 46 49 (49 ∷ 49 ∷ 49 ∷ 49 ∷ []) refl }; outcome = refl } },
                                                                                                    (
                                                                                                      record { begun = omega arith; row = record { core = omega arith; entered = refl; woken = refl; first = refl; outcome = (0, omega arith, refl) } },
                                                                                                      (
                                                                                                        record { begun = omega arith; row = record { core = omega arith; worked = refl; first = refl; read = record { one_each = refl; each = reads_within 46 51 (51 ∷ 51 ∷ 51 ∷ 51 ∷ []) refl }; outcome = refl } },
                                                                                                        (
                                                                                                          record { begun = omega arith; row = record { core = omega arith; entered = refl; woken = refl; first = refl; outcome = (0, omega arith, refl) } },
                                                                                                          (
                                                                                                            record { begun = omega arith; row = record { core = omega arith; worked = refl; first = refl; read = record { one_each = refl; each = reads_within 46 53 (53 ∷ 53 ∷ 53 ∷ 53 ∷ []) refl }; outcome = refl } },
                                                                                                            (
                                                                                                              record { complete = refl; due = refl; next = refl },
                                                                                                              (
                                                                                                                record { begun = omega arith; row = record { core = omega arith; entered = refl; woken = refl; first = refl; outcome = (0, omega arith, refl) } },
                                                                                                                (
                                                                                                                  record { begun = omega arith; row = record { core = omega arith; worked = refl; first = refl; read = record { one_each = refl; each = reads_within 55 56 (56 ∷ 56 ∷ 56 ∷ 56 ∷ []) refl }; outcome = refl } },
                                                                                                                  (
                                                                                                                    record { begun = omega arith; row = record { core = omega arith; entered = refl; woken = refl; first = refl; outcome = (0, omega arith, refl) } },
                                                                                                                    (
                                                                                                                      record { begun = omega arith; row = record { core = omega arith; worked = refl; first = refl; read = record { one_each = refl; each = reads_within 55 58 (58 ∷ 58 ∷ 58 ∷ 58 ∷ []) refl }; outcome = refl } },
                                                                                                                      (
                                                                                                                        record { begun = omega arith; row = record { core = omega arith; entered = refl; woken = refl; first = refl; outcome = (0, omega arith, refl) } },
                                                                                                                        (
                                                                                                                          record { begun = omega arith; row = record { core = omega arith; worked = refl; first = refl; read = record { one_each = refl; each = reads_within 55 60 (60 ∷ 60 ∷ 60 ∷ 60 ∷ []) refl }; outcome = refl } },
                                                                                                                          (
                                                                                                                            record { begun = omega arith; row = record { core = omega arith; entered = refl; woken = refl; first = refl; outcome = (0, omega arith, refl) } },
                                                                                                                            (
                                                                                                                              record { begun = omega arith; row = record { core = omega arith; worked = refl; first = refl; read = record { one_each = refl; each = reads_within 55 62 (62 ∷ 62 ∷ 62 ∷ 62 ∷ []) refl }; outcome = refl } },
                                                                                                                              (
                                                                                                                                record { complete = refl; due = refl; next = refl },
                                                                                                                                (
                                                                                                                                  record { begun = omega arith; row = record { core = omega arith; entered = refl; woken = refl; first = refl; outcome = (0, omega arith, refl) } },
                                                                                                                                  (
                                                                                                                                    record { begun = omega arith; row = record { core = omega arith; worked = refl; first = refl; read = record { one_each = refl; each = reads_within 64 65 (65 ∷ 65 ∷ 65 ∷ 65 ∷ []) refl }; outcome = refl } },
                                                                                                                                    (
                                                                                                                                      record { begun = omega arith; row = record { core = omega arith; entered = refl; woken = refl; first = refl; outcome = (0, omega arith, refl) } },
                                                                                                                                      (
                                                                                                                                        record { begun = omega arith; row = record { core = omega arith; worked = refl; first = refl; read = record { one_each = refl; each = reads_within 64 67 (67 ∷ 67 ∷ 67 ∷ 67 ∷ []) refl }; outcome = refl } },
                                                                                                                                        (
                                                                                                                                          record { begun = omega arith; row = record { core = omega arith; entered = refl; woken = refl; first = refl; outcome = (0, omega arith, refl) } },
                                                                                                                                          (
                                                                                                                                            record { begun = omega arith; row = record { core = omega arith; worked = refl; first = refl; read = record { one_each = refl; each = reads_within 64 69 (69 ∷ 69 ∷ 69 ∷ 69 ∷ []) refl }; outcome = refl } },
                                                                                                                                            (
                                                                                                                                              record { begun = omega arith; row = record { core = omega arith; entered = refl; woken = refl; first = refl; outcome = (0, omega arith, refl) } },
                                                                                                                                              (
                                                                                                                                                record { begun = omega arith; row = record { core = omega arith; worked = refl; first = refl; read = record { one_each = refl; each = reads_within 64 71 (71 ∷ 71 ∷ 71 ∷ 71 ∷ []) refl }; outcome = refl } },
                                                                                                                                                tt,
                                                                                                                                              ),
                                                                                                                                            ),
                                                                                                                                          ),
                                                                                                                                        ),
                                                                                                                                      ),
                                                                                                                                    ),
                                                                                                                                  ),
                                                                                                                                ),
                                                                                                                              ),
                                                                                                                            ),
                                                                                                                          ),
                                                                                                                        ),
                                                                                                                      ),
                                                                                                                    ),
                                                                                                                  ),
                                                                                                                ),
                                                                                                              ),
                                                                                                            ),
                                                                                                          ),
                                                                                                        ),
                                                                                                      ),
                                                                                                    ),
                                                                                                  ),
                                                                                                ),
                                                                                              ),
                                                                                            ),
                                                                                          ),
                                                                                        ),
                                                                                      ),
                                                                                    ),
                                                                                  ),
                                                                                ),
                                                                              ),
                                                                            ),
                                                                          ),
                                                                        ),
                                                                      ),
                                                                    ),
                                                                  ),
                                                                ),
                                                              ),
                                                            ),
                                                          ),
                                                        ),
                                                      ),
                                                    ),
                                                  ),
                                                ),
                                              ),
                                            ),
                                          ),
                                        ),
                                      ),
                                    ),
                                  ),
                                ),
                              ),
                            ),
                          ),
                        ),
                      ),
                    ),
                  ),
                ),
              ),
            ),
          ),
        ),
      ),
    ),
  ),
)

pub chain_takes_four : ChainTakesFour
unfolding round_row gap_at_rest idle_count spread above acts touches effect after_from attempt_of candidates_of choice_of target_of opening_state is_due is_complete core_after_event handed handed_all received received_all released scene_of entering_next waking_next worked holding_cases outcomes_of task_after_set pair_values core_values thread_values event_values
chain_takes_four = record {
  legal = legal_walk chain chain_plan chain_history chain_steps;
  stretch = record { positive = omega arith; ordered = omega arith; begun = omega arith; still = still_by_test chain_history 2 7 refl };
  rests = refl;
  lowest_first = refl;
}
