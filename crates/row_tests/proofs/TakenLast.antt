-- The history of three cores is legal under the policy `fair`, and two of its rounds waste the one idle core.
use Rattle.std.proofs.Common.{◌≡◌, ◌≤◌, ◌<◌, ◌+◌, ℕ, zero, suc, [], ◌∷◌, All, get_or, refl, arith, slice_index_or}
use Rattle.std.proofs.lemmas.List.Elements.{All-from_recursion}
use Rattle.policy_eval.specs.Events.{holding_cases, outcomes_of, task_after_set}
use Rattle.policy_eval.specs.Ranges.{AreIn, attribute_ranges}
use Rattle.policy_eval.specs.Sights.{core_values, event_values, pair_values, thread_values}
use Rattle.round_model.specs.After.{after_from, effect}
use Rattle.round_model.specs.Attempts.{attempt_of}
use Rattle.round_model.specs.Choices.{candidates_of, choice_of, target_of}
use Rattle.round_model.specs.Cores.{opening_state}
use Rattle.round_model.specs.Entries.{acts, touches}
use Rattle.round_model.specs.Fits.{Fits, ThreadFits}
use Rattle.round_model.specs.Legal.{Legal, LegalNext, is_complete, is_due}
use Rattle.round_model.specs.Moves.{core_after_event, handed_all, received_all, released}
use Rattle.round_model.specs.Rounds.{Attempts, IsBad}
use Rattle.round_model.specs.Rows.{Row}
use Rattle.round_model.specs.Scenes.{entering_next, scene_of, waking_next}
use Rattle.round_model.specs.Work.{worked}
use Rattle.round_model.specs.Stretches.{IsStillStretch}
use Rattle.std.specs.List.Sorted.{IsStrictlyIncreasing}
use Rattle.round_model.specs.declared.entry.Entry.TheVariants as entry
use Rattle.round_model.specs.declared.plan.Planned.{Planned}
use Rattle.round_model.proofs.Stillness.{still_by_test}
use Rattle.round_model.proofs.Walks.{LegalFrom, legal_walk, reads_within}
use Rattle.round_laws.specs.IdleBound.{PaysByIdleCores, idle_at, waiting_count}
use Rattle.round_model.specs.Spread.{idle_count}
use Rattle.round_laws.proofs.WastePaid.{waste_is_paid_law}
use Rattle.fair_policy.specs.Fair.{fair_meaning as fair}
use Rattle.fair_policy.proofs.FairMeets.{fair_meets}
use Rattle.fair_policy.proofs.FairResolved.{fair_resolved}
use Rattle.model_tests.proofs.PolicyRows.{zeros_fit}
use Rattle.row_tests.specs.TakenLast.{NeedsItsPremise, ThreeCoresCounts, three_cores, three_cores_history}

pub three_cores_counts : ThreeCoresCounts
unfolding acts touches effect after_from attempt_of candidates_of choice_of target_of opening_state is_due is_complete core_after_event handed_all received_all released scene_of entering_next waking_next worked holding_cases outcomes_of task_after_set pair_values core_values thread_values event_values idle_count waiting_count
three_cores_counts = record { idle = refl; waiting = refl }

steps : LegalFrom fair three_cores [] three_cores_history
unfolding LegalNext Row acts touches effect after_from attempt_of candidates_of choice_of target_of opening_state is_due is_complete core_after_event handed_all received_all released scene_of entering_next waking_next worked holding_cases outcomes_of task_after_set pair_values core_values thread_values event_values
steps = (
  record { complete = refl; due = refl; next = refl },
  (
    record { begun = omega arith; row = record { core = omega arith; next = refl; placement = record { read = record { one_each = refl; each = reads_within 1 1 (1 ∷ 1 ∷ 1 ∷ []) refl }; target = refl } } },
    (
      record { begun = omega arith; row = record { core = omega arith; next = refl; placement = record { read = record { one_each = refl; each = reads_within 1 2 (1 ∷ 1 ∷ 1 ∷ []) refl }; target = refl } } },
      (
        record { begun = omega arith; row = record { core = omega arith; next = refl; placement = record { read = record { one_each = refl; each = reads_within 1 3 (3 ∷ 3 ∷ 3 ∷ []) refl }; target = refl } } },
        (
          record { begun = omega arith; row = record { core = omega arith; entered = refl; woken = refl; first = refl; outcome = (0, omega arith, refl) } },
          (
            record { begun = omega arith; row = record { core = omega arith; worked = refl; first = refl; read = record { one_each = refl; each = reads_within 1 5 (5 ∷ 5 ∷ 5 ∷ []) refl }; outcome = refl } },
            (
              record { begun = omega arith; row = record { core = omega arith; entered = refl; woken = refl; first = refl; outcome = (0, omega arith, refl) } },
              (
                record { begun = omega arith; row = record { core = omega arith; worked = refl; first = refl; read = record { one_each = refl; each = reads_within 1 7 (1 ∷ 7 ∷ 7 ∷ []) refl }; outcome = refl } },
                (
                  record { begun = omega arith; row = record { core = omega arith; entered = refl; woken = refl; first = refl; outcome = (0, omega arith, refl) } },
                  (
                    record { begun = omega arith; row = record { core = omega arith; worked = refl; first = refl; read = record { one_each = refl; each = reads_within 1 9 (1 ∷ 9 ∷ 9 ∷ []) refl }; outcome = refl } },
                    (
                      record { complete = refl; due = refl; next = refl },
                      (
                        record { begun = omega arith; row = record { core = omega arith; entered = refl; woken = refl; first = refl; outcome = (0, omega arith, refl) } },
                        (
                          record { begun = omega arith; row = record { core = omega arith; entered = refl; woken = refl; first = refl; outcome = (0, omega arith, refl) } },
                          (
                            record { begun = omega arith; row = record { core = omega arith; worked = refl; first = refl; read = record { one_each = refl; each = reads_within 11 13 (13 ∷ 13 ∷ 13 ∷ []) refl }; outcome = refl } },
                            (
                              record { begun = omega arith; row = record { core = omega arith; worked = refl; first = refl; read = record { one_each = refl; each = reads_within 11 14 (13 ∷ 13 ∷ 13 ∷ []) refl }; outcome = refl } },
                              (
                                record { begun = omega arith; row = record { core = omega arith; entered = refl; woken = refl; first = refl; outcome = (0, omega arith, refl) } },
                                (
                                  record { begun = omega arith; row = record { core = omega arith; worked = refl; first = refl; read = record { one_each = refl; each = reads_within 11 16 (16 ∷ 16 ∷ 16 ∷ []) refl }; outcome = refl } },
                                  (
                                    record { complete = refl; due = refl; next = refl },
                                    (
                                      record { begun = omega arith; row = record { core = omega arith; entered = refl; woken = refl; first = refl; outcome = (0, omega arith, refl) } },
                                      (
                                        record { begun = omega arith; row = record { core = omega arith; worked = refl; first = refl; read = record { one_each = refl; each = reads_within 18 19 (19 ∷ 19 ∷ 19 ∷ []) refl }; outcome = refl } },
                                        (
                                          record { begun = omega arith; row = record { core = omega arith; entered = refl; woken = refl; first = refl; outcome = (0, omega arith, refl) } },
                                          (
                                            record { begun = omega arith; row = record { core = omega arith; worked = refl; first = refl; read = record { one_each = refl; each = reads_within 18 21 (21 ∷ 21 ∷ 21 ∷ []) refl }; outcome = refl } },
                                            (
                                              record { begun = omega arith; row = record { core = omega arith; entered = refl; woken = refl; first = refl; outcome = (0, omega arith, refl) } },
                                              (
                                                record { begun = omega arith; row = record { core = omega arith; worked = refl; first = refl; read = record { one_each = refl; each = reads_within 18 23 (23 ∷ 23 ∷ 23 ∷ []) refl }; outcome = refl } },
                                                tt,
                                              ),
                                            ),
                                          ),
                                        ),
                                      ),
                                    ),
                                  ),
                                ),
                              ),
                            ),
                          ),
                        ),
                      ),
                    ),
                  ),
                ),
              ),
            ),
          ),
        ),
      ),
    ),
  ),
)

legal : Legal fair three_cores three_cores_history
legal = legal_walk fair three_cores three_cores_history steps

thread_fits : All (ThreadFits fair 3) three_cores.threads
thread_fits = All-from_recursion (ThreadFits fair 3) three_cores.threads (record { id_positive = omega arith; id_small = omega arith; core = omega arith; weight = record { least = omega arith; greatest = omega arith }; program = (omega arith, omega arith, refl); few_bursts = omega arith }, (record { id_positive = omega arith; id_small = omega arith; core = omega arith; weight = record { least = omega arith; greatest = omega arith }; program = (omega arith, omega arith, refl); few_bursts = omega arith }, (record { id_positive = omega arith; id_small = omega arith; core = omega arith; weight = record { least = omega arith; greatest = omega arith }; program = (omega arith, omega arith, refl); few_bursts = omega arith }, tt)))

numbered : (k : ℕ) (d : Planned) → k < 3 → (get_or three_cores.threads k d).id ≡ k + 1
numbered zero d inside = refl
numbered (suc zero) d inside = refl
numbered (suc (suc zero)) d inside = refl
numbered (suc (suc (suc k))) d inside = absurd (omega arith)

fits : Fits fair three_cores
fits = record {
  policy = fair_resolved;
  some_cores = omega arith;
  consts_each = refl;
  consts = All-from_recursion (AreIn (attribute_ranges [])) three_cores.consts (zeros_fit, (zeros_fit, (zeros_fit, tt)));
  few_threads = omega arith;
  threads = thread_fits;
  distinct = λ i j d below inside same. absurd (omega (arith, numbered i d (omega arith), numbered j d inside));
  orders = λ k d inside. absurd (omega arith);
  one_order_each = λ i j d below inside. absurd (omega arith);
}

attempts_of_2 : (c : ℕ) → c < 3 → Attempts three_cores_history 2 c
unfolding acts touches effect after_from attempt_of candidates_of choice_of target_of opening_state is_due is_complete core_after_event handed_all received_all released scene_of entering_next waking_next worked holding_cases outcomes_of task_after_set pair_values core_values thread_values event_values
attempts_of_2 zero there = record { position = 16; attempt = slice_index_or three_cores_history 16 (entry.Round 0); stands = refl; in_round = refl; by_core = refl; is = refl }
attempts_of_2 (suc zero) there = record { position = 13; attempt = slice_index_or three_cores_history 13 (entry.Round 0); stands = refl; in_round = refl; by_core = refl; is = refl }
attempts_of_2 (suc (suc zero)) there = record { position = 14; attempt = slice_index_or three_cores_history 14 (entry.Round 0); stands = refl; in_round = refl; by_core = refl; is = refl }
attempts_of_2 (suc (suc (suc c))) there = absurd (omega arith)

attempts_of_3 : (c : ℕ) → c < 3 → Attempts three_cores_history 3 c
unfolding acts touches effect after_from attempt_of candidates_of choice_of target_of opening_state is_due is_complete core_after_event handed_all received_all released scene_of entering_next waking_next worked holding_cases outcomes_of task_after_set pair_values core_values thread_values event_values
attempts_of_3 zero there = record { position = 21; attempt = slice_index_or three_cores_history 21 (entry.Round 0); stands = refl; in_round = refl; by_core = refl; is = refl }
attempts_of_3 (suc zero) there = record { position = 23; attempt = slice_index_or three_cores_history 23 (entry.Round 0); stands = refl; in_round = refl; by_core = refl; is = refl }
attempts_of_3 (suc (suc zero)) there = record { position = 19; attempt = slice_index_or three_cores_history 19 (entry.Round 0); stands = refl; in_round = refl; by_core = refl; is = refl }
attempts_of_3 (suc (suc (suc c))) there = absurd (omega arith)

bad_2 : IsBad fair three_cores three_cores_history 2
unfolding acts touches effect after_from attempt_of candidates_of choice_of target_of opening_state is_due is_complete core_after_event handed_all received_all released scene_of entering_next waking_next worked holding_cases outcomes_of task_after_set pair_values core_values thread_values event_values
bad_2 = record {
  position = 10;
  begins = refl;
  complete = attempts_of_2;
  beside = record { idle = 2; overloaded = 0; idle_there = omega arith; overloaded_there = omega arith; is_idle = refl; is_overloaded = omega arith };
}

bad_3 : IsBad fair three_cores three_cores_history 3
unfolding acts touches effect after_from attempt_of candidates_of choice_of target_of opening_state is_due is_complete core_after_event handed_all received_all released scene_of entering_next waking_next worked holding_cases outcomes_of task_after_set pair_values core_values thread_values event_values
bad_3 = record {
  position = 17;
  begins = refl;
  complete = attempts_of_3;
  beside = record { idle = 2; overloaded = 1; idle_there = omega arith; overloaded_there = omega arith; is_idle = refl; is_overloaded = omega arith };
}

-- one core is idle as round 2 begins
one_idle : idle_at fair three_cores three_cores_history 10 ≡ 1
unfolding acts touches effect after_from attempt_of candidates_of choice_of target_of opening_state is_due is_complete core_after_event handed_all received_all released scene_of entering_next waking_next worked holding_cases outcomes_of task_after_set pair_values core_values thread_values event_values idle_count
one_idle = refl

-- the two rounds are more than the one core that is idle as they begin
too_many : PaysByIdleCores fair three_cores three_cores_history → ⊥
too_many pays =
    let stretch : IsStillStretch three_cores_history 2 3 = record { positive = omega arith; ordered = omega arith; begun = omega arith; still = still_by_test three_cores_history 2 3 refl } in
    let few = pays.still_waste_is_paid 2 3 10 (2 ∷ 3 ∷ []) stretch refl rising both in
    let enough = few.idle in
    let one = one_idle in
    absurd (omega arith)
  where
    rising : IsStrictlyIncreasing (2 ∷ 3 ∷ [])
    rising zero inside = omega arith
    rising (suc k) inside = absurd (omega arith)

    both : All (λ number. (2 ≤ number) × (number ≤ 3) × IsBad fair three_cores three_cores_history number) (2 ∷ 3 ∷ [])
    both zero d inside = (omega arith, omega arith, bad_2)
    both (suc zero) d inside = (omega arith, omega arith, bad_3)
    both (suc (suc k)) d inside = absurd (omega arith)

pub needs_its_premise : NeedsItsPremise
needs_its_premise = record {
  meets = fair_meets;
  fits = fits;
  legal = legal;
  not_every_policy = λ every. too_many (every fair three_cores three_cores_history fits fair_meets legal);
  not_this_one = λ leaves. too_many (waste_is_paid_law fair three_cores three_cores_history fits fair_meets leaves legal);
}
