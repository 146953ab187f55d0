-- The history of four cores is legal under the policy `leaving`, and its bad rounds are as many as its idle cores.
use Rattle.std.proofs.Common.{◌≡◌, ◌<◌, ◌≤◌, ◌+◌, ◌-◌, ℕ, zero, suc, [], ◌∷◌, All, get_or, refl, arith, slice_index_or, map, subst, sym}
use Rattle.std.proofs.lemmas.List.Elements.{All-from_recursion}
use Rattle.std.proofs.lemmas.Int.{ints}
use Rattle.policy_tree.specs.declared.typed.Event.{Event}
use Rattle.policy_tree.specs.declared.typed.Event.TheVariants as event
use Rattle.policy_eval.specs.Events.{holding_cases, outcomes_of, task_after_set}
use Rattle.policy_eval.specs.Obligations.{MeetsBalanceObligations, MeetsObligations, NoGap, NoOverlap}
use Rattle.policy_eval.specs.Ranges.{AreIn, attribute_ranges}
use Rattle.policy_eval.specs.Sights.{core_values, event_values, pair_values, thread_values}
use Rattle.policy_eval.proofs.Statements.{all_obligations}
use Rattle.round_model.specs.After.{after_from, effect}
use Rattle.round_model.specs.Attempts.{attempt_of}
use Rattle.round_model.specs.Choices.{candidates_of, choice_of, target_of}
use Rattle.round_model.specs.Cores.{opening_state}
use Rattle.round_model.specs.Entries.{acts, touches}
use Rattle.round_model.specs.Fits.{Fits, ThreadFits}
use Rattle.round_model.specs.Legal.{Legal, LegalNext, is_complete, is_due}
use Rattle.round_model.specs.Moves.{core_after_event, handed_all, received_all, released}
use Rattle.round_model.specs.Rounds.{Attempts, BeginsAt, IsBad}
use Rattle.round_model.specs.StillRounds.{BesideAt}
use Rattle.round_model.specs.Stretches.{InStretch, IsStillStretch}
use Rattle.std.specs.List.Sorted.{IsStrictlyIncreasing}
use Rattle.round_model.specs.Rows.{Row}
use Rattle.round_model.specs.Scenes.{entering_next, scene_of, waking_next}
use Rattle.round_model.specs.Work.{worked}
use Rattle.round_model.specs.declared.entry.Entry.TheVariants as entry
use Rattle.round_model.specs.declared.plan.Planned.{Planned}
use Rattle.round_model.proofs.Stillness.{still_by_test}
use Rattle.round_model.proofs.Walks.{LegalFrom, legal_walk, reads_within}
use Rattle.policy_eval.specs.LastWaiting.{LeavesLastToIdle}
use Rattle.round_model.specs.Spread.{idle_count}
use Rattle.round_laws.specs.IdleBound.{idle_at, waiting_at, waiting_count}
use Rattle.row_tests.specs.BoundMet.{BoundIsMet, MendedMisses, NoRoundLess, OneRoundLess, OneRoundSooner, four_cores, four_cores_history, leaving}
use Rattle.row_tests.proofs.LeavingResolved.{leaving_resolved}
use Rattle.model_tests.proofs.PolicyRows.{zeros_fit}

balance : MeetsBalanceObligations leaving
unfolding pair_values
balance = record {
  idle_sees_overloaded = λ own victim fits other idle busy. grind (arith, ints);
  victim_is_overloaded = λ own victim fits other sees. grind (arith, ints);
  move_narrows_gap = λ own victim weight fits other is sees queued.
      let a = fits.loads.light in let b = fits.loads.heavy in let c = other.loads.light in let d = other.loads.heavy in let e = is.least in let f = is.greatest in grind (arith, ints);
  further_move_narrows_gap = tt;
}

no_overlap : (e : Event) → NoOverlap leaving e
unfolding holding_cases
no_overlap event.Enqueue fresh consts t held fits = omega arith
no_overlap event.Tick fresh consts t held fits = omega arith
no_overlap event.Yield fresh consts t held fits = omega arith
no_overlap event.Block fresh consts t held fits = omega arith

no_gap : (e : Event) → NoGap leaving e
unfolding holding_cases
no_gap event.Enqueue fresh consts t held fits = omega arith
no_gap event.Tick fresh consts t held fits = omega arith
no_gap event.Yield fresh consts t held fits = omega arith
no_gap event.Block fresh consts t held fits = omega arith

meets : MeetsObligations leaving
meets = all_obligations leaving balance (record { no_overlap = no_overlap; no_gap = no_gap })

leaves : LeavesLastToIdle leaving
unfolding pair_values
leaves = record { filter = λ own victim fits other sees few. grind (arith, ints); batch = tt }

counts : map (idle_at leaving four_cores four_cores_history) (13 ∷ 22 ∷ 31 ∷ []) ≡ 2 ∷ 1 ∷ 0 ∷ []
unfolding acts touches effect after_from attempt_of candidates_of choice_of target_of opening_state is_due is_complete core_after_event handed_all received_all released scene_of entering_next waking_next worked holding_cases outcomes_of task_after_set pair_values core_values thread_values event_values idle_count
counts = refl

waiting : map (waiting_at leaving four_cores four_cores_history) (13 ∷ 22 ∷ 31 ∷ []) ≡ 2 ∷ 1 ∷ 0 ∷ []
unfolding acts touches effect after_from attempt_of candidates_of choice_of target_of opening_state is_due is_complete core_after_event handed_all received_all released scene_of entering_next waking_next worked holding_cases outcomes_of task_after_set pair_values core_values thread_values event_values waiting_count
waiting = refl

steps : LegalFrom leaving four_cores [] four_cores_history
unfolding LegalNext Row acts touches effect after_from attempt_of candidates_of choice_of target_of opening_state is_due is_complete core_after_event handed_all received_all released scene_of entering_next waking_next worked holding_cases outcomes_of task_after_set pair_values core_values thread_values event_values
steps = (
  record { complete = refl; due = refl; next = refl },
  (
    record { begun = omega arith; row = record { core = omega arith; next = refl; placement = record { read = record { one_each = refl; each = reads_within 1 1 (1 ∷ 1 ∷ 1 ∷ 1 ∷ []) refl }; target = refl } } },
    (
      record { begun = omega arith; row = record { core = omega arith; next = refl; placement = record { read = record { one_each = refl; each = reads_within 1 2 (1 ∷ 1 ∷ 1 ∷ 1 ∷ []) refl }; target = refl } } },
      (
        record { begun = omega arith; row = record { core = omega arith; next = refl; placement = record { read = record { one_each = refl; each = reads_within 1 3 (3 ∷ 3 ∷ 3 ∷ 3 ∷ []) refl }; target = refl } } },
        (
          record { begun = omega arith; row = record { core = omega arith; next = refl; placement = record { read = record { one_each = refl; each = reads_within 1 4 (4 ∷ 3 ∷ 4 ∷ 4 ∷ []) refl }; target = refl } } },
          (
            record { begun = omega arith; row = record { core = omega arith; entered = refl; woken = refl; first = refl; outcome = (0, omega arith, refl) } },
            (
              record { begun = omega arith; row = record { core = omega arith; worked = refl; first = refl; read = record { one_each = refl; each = reads_within 1 6 (6 ∷ 6 ∷ 6 ∷ 6 ∷ []) refl }; outcome = refl } },
              (
                record { begun = omega arith; row = record { core = omega arith; entered = refl; woken = refl; first = refl; outcome = (0, omega arith, refl) } },
                (
                  record { begun = omega arith; row = record { core = omega arith; worked = refl; first = refl; read = record { one_each = refl; each = reads_within 1 8 (8 ∷ 8 ∷ 8 ∷ 8 ∷ []) refl }; outcome = refl } },
                  (
                    record { begun = omega arith; row = record { core = omega arith; entered = refl; woken = refl; first = refl; outcome = (0, omega arith, refl) } },
                    (
                      record { begun = omega arith; row = record { core = omega arith; worked = refl; first = refl; read = record { one_each = refl; each = reads_within 1 10 (1 ∷ 1 ∷ 10 ∷ 10 ∷ []) refl }; outcome = refl } },
                      (
                        record { begun = omega arith; row = record { core = omega arith; entered = refl; woken = refl; first = refl; outcome = (0, omega arith, refl) } },
                        (
                          record { begun = omega arith; row = record { core = omega arith; worked = refl; first = refl; read = record { one_each = refl; each = reads_within 1 12 (1 ∷ 1 ∷ 12 ∷ 12 ∷ []) refl }; outcome = refl } },
                          (
                            record { complete = refl; due = refl; next = refl },
                            (
                              record { begun = omega arith; row = record { core = omega arith; entered = refl; woken = refl; first = refl; outcome = (0, omega arith, refl) } },
                              (
                                record { begun = omega arith; row = record { core = omega arith; entered = refl; woken = refl; first = refl; outcome = (0, omega arith, refl) } },
                                (
                                  record { begun = omega arith; row = record { core = omega arith; worked = refl; first = refl; read = record { one_each = refl; each = reads_within 14 16 (16 ∷ 16 ∷ 16 ∷ 16 ∷ []) refl }; outcome = refl } },
                                  (
                                    record { begun = omega arith; row = record { core = omega arith; worked = refl; first = refl; read = record { one_each = refl; each = reads_within 14 17 (16 ∷ 16 ∷ 16 ∷ 16 ∷ []) refl }; outcome = refl } },
                                    (
                                      record { begun = omega arith; row = record { core = omega arith; entered = refl; woken = refl; first = refl; outcome = (0, omega arith, refl) } },
                                      (
                                        record { begun = omega arith; row = record { core = omega arith; worked = refl; first = refl; read = record { one_each = refl; each = reads_within 14 19 (19 ∷ 19 ∷ 19 ∷ 19 ∷ []) refl }; outcome = refl } },
                                        (
                                          record { begun = omega arith; row = record { core = omega arith; entered = refl; woken = refl; first = refl; outcome = (0, omega arith, refl) } },
                                          (
                                            record { begun = omega arith; row = record { core = omega arith; worked = refl; first = refl; read = record { one_each = refl; each = reads_within 14 21 (21 ∷ 21 ∷ 21 ∷ 21 ∷ []) refl }; outcome = refl } },
                                            (
                                              record { complete = refl; due = refl; next = refl },
                                              (
                                                record { begun = omega arith; row = record { core = omega arith; entered = refl; woken = refl; first = refl; outcome = (0, omega arith, refl) } },
                                                (
                                                  record { begun = omega arith; row = record { core = omega arith; worked = refl; first = refl; read = record { one_each = refl; each = reads_within 23 24 (24 ∷ 24 ∷ 24 ∷ 24 ∷ []) refl }; outcome = refl } },
                                                  (
                                                    record { begun = omega arith; row = record { core = omega arith; entered = refl; woken = refl; first = refl; outcome = (0, omega arith, refl) } },
                                                    (
                                                      record { begun = omega arith; row = record { core = omega arith; worked = refl; first = refl; read = record { one_each = refl; each = reads_within 23 26 (26 ∷ 26 ∷ 26 ∷ 26 ∷ []) refl }; outcome = refl } },
                                                      (
                                                        record { begun = omega arith; row = record { core = omega arith; entered = refl; woken = refl; first = refl; outcome = (0, omega arith, refl) } },
                                                        (
                                                          record { begun = omega arith; row = record { core = omega arith; worked = refl; first = refl; read = record { one_each = refl; each = reads_within 23 28 (28 ∷ 28 ∷ 28 ∷ 28 ∷ []) refl }; outcome = refl } },
                                                          (
                                                            record { begun = omega arith; row = record { core = omega arith; entered = refl; woken = refl; first = refl; outcome = (0, omega arith, refl) } },
                                                            (
                                                              record { begun = omega arith; row = record { core = omega arith; worked = refl; first = refl; read = record { one_each = refl; each = reads_within 23 30 (30 ∷ 30 ∷ 30 ∷ 30 ∷ []) refl }; outcome = refl } },
                                                              tt,
                                                            ),
                                                          ),
                                                        ),
                                                      ),
                                                    ),
                                                  ),
                                                ),
                                              ),
                                            ),
                                          ),
                                        ),
                                      ),
                                    ),
                                  ),
                                ),
                              ),
                            ),
                          ),
                        ),
                      ),
                    ),
                  ),
                ),
              ),
            ),
          ),
        ),
      ),
    ),
  ),
)

legal : Legal leaving four_cores four_cores_history
legal = legal_walk leaving four_cores four_cores_history steps

thread_fits : All (ThreadFits leaving 4) four_cores.threads
thread_fits = All-from_recursion (ThreadFits leaving 4) four_cores.threads (record { id_positive = omega arith; id_small = omega arith; core = omega arith; weight = record { least = omega arith; greatest = omega arith }; program = (omega arith, omega arith, refl); few_bursts = omega arith }, (record { id_positive = omega arith; id_small = omega arith; core = omega arith; weight = record { least = omega arith; greatest = omega arith }; program = (omega arith, omega arith, refl); few_bursts = omega arith }, (record { id_positive = omega arith; id_small = omega arith; core = omega arith; weight = record { least = omega arith; greatest = omega arith }; program = (omega arith, omega arith, refl); few_bursts = omega arith }, (record { id_positive = omega arith; id_small = omega arith; core = omega arith; weight = record { least = omega arith; greatest = omega arith }; program = (omega arith, omega arith, refl); few_bursts = omega arith }, tt))))

numbered : (k : ℕ) (d : Planned) → k < 4 → (get_or four_cores.threads k d).id ≡ k + 1
numbered zero d inside = refl
numbered (suc zero) d inside = refl
numbered (suc (suc zero)) d inside = refl
numbered (suc (suc (suc zero))) d inside = refl
numbered (suc (suc (suc (suc k)))) d inside = absurd (omega arith)

fits : Fits leaving four_cores
fits = record {
  policy = leaving_resolved;
  some_cores = omega arith;
  consts_each = refl;
  consts = All-from_recursion (AreIn (attribute_ranges [])) four_cores.consts (zeros_fit, (zeros_fit, (zeros_fit, (zeros_fit, tt))));
  few_threads = omega arith;
  threads = thread_fits;
  distinct = λ i j d below inside same. absurd (omega (arith, numbered i d (omega arith), numbered j d inside));
  orders = λ k d inside. absurd (omega arith);
  one_order_each = λ i j d below inside. absurd (omega arith);
}

attempts_of_2 : (c : ℕ) → c < 4 → Attempts four_cores_history 2 c
unfolding acts touches effect after_from attempt_of candidates_of choice_of target_of opening_state is_due is_complete core_after_event handed_all received_all released scene_of entering_next waking_next worked holding_cases outcomes_of task_after_set pair_values core_values thread_values event_values
attempts_of_2 zero there = record { position = 19; attempt = slice_index_or four_cores_history 19 (entry.Round 0); stands = refl; in_round = refl; by_core = refl; is = refl }
attempts_of_2 (suc zero) there = record { position = 21; attempt = slice_index_or four_cores_history 21 (entry.Round 0); stands = refl; in_round = refl; by_core = refl; is = refl }
attempts_of_2 (suc (suc zero)) there = record { position = 16; attempt = slice_index_or four_cores_history 16 (entry.Round 0); stands = refl; in_round = refl; by_core = refl; is = refl }
attempts_of_2 (suc (suc (suc zero))) there = record { position = 17; attempt = slice_index_or four_cores_history 17 (entry.Round 0); stands = refl; in_round = refl; by_core = refl; is = refl }
attempts_of_2 (suc (suc (suc (suc c)))) there = absurd (omega arith)

attempts_of_3 : (c : ℕ) → c < 4 → Attempts four_cores_history 3 c
unfolding acts touches effect after_from attempt_of candidates_of choice_of target_of opening_state is_due is_complete core_after_event handed_all received_all released scene_of entering_next waking_next worked holding_cases outcomes_of task_after_set pair_values core_values thread_values event_values
attempts_of_3 zero there = record { position = 26; attempt = slice_index_or four_cores_history 26 (entry.Round 0); stands = refl; in_round = refl; by_core = refl; is = refl }
attempts_of_3 (suc zero) there = record { position = 28; attempt = slice_index_or four_cores_history 28 (entry.Round 0); stands = refl; in_round = refl; by_core = refl; is = refl }
attempts_of_3 (suc (suc zero)) there = record { position = 30; attempt = slice_index_or four_cores_history 30 (entry.Round 0); stands = refl; in_round = refl; by_core = refl; is = refl }
attempts_of_3 (suc (suc (suc zero))) there = record { position = 24; attempt = slice_index_or four_cores_history 24 (entry.Round 0); stands = refl; in_round = refl; by_core = refl; is = refl }
attempts_of_3 (suc (suc (suc (suc c)))) there = absurd (omega arith)

bad_2 : IsBad leaving four_cores four_cores_history 2
unfolding acts touches effect after_from attempt_of candidates_of choice_of target_of opening_state is_due is_complete core_after_event handed_all received_all released scene_of entering_next waking_next worked holding_cases outcomes_of task_after_set pair_values core_values thread_values event_values
bad_2 = record {
  position = 13;
  begins = refl;
  complete = attempts_of_2;
  beside = record { idle = 3; overloaded = 0; idle_there = omega arith; overloaded_there = omega arith; is_idle = refl; is_overloaded = omega arith };
}

beside_3 : BesideAt leaving four_cores four_cores_history 22
unfolding acts touches effect after_from attempt_of candidates_of choice_of target_of opening_state is_due is_complete core_after_event handed_all received_all released scene_of entering_next waking_next worked holding_cases outcomes_of task_after_set pair_values core_values thread_values event_values
beside_3 = record { idle = 3; overloaded = 1; idle_there = omega arith; overloaded_there = omega arith; is_idle = refl; is_overloaded = omega arith }

bad_3 : IsBad leaving four_cores four_cores_history 3
unfolding acts touches effect after_from attempt_of candidates_of choice_of target_of opening_state is_due is_complete core_after_event handed_all received_all released scene_of entering_next waking_next worked holding_cases outcomes_of task_after_set pair_values core_values thread_values event_values
bad_3 = record {
  position = 22;
  begins = refl;
  complete = attempts_of_3;
  beside = beside_3;
}

stretch : IsStillStretch four_cores_history 2 3
stretch = record { positive = omega arith; ordered = omega arith; begun = omega arith; still = still_by_test four_cores_history 2 3 refl }

pub bound_is_met : BoundIsMet
bound_is_met = record {
  meets = meets;
  leaves = leaves;
  fits = fits;
  legal = legal;
  stretch = stretch;
  second_is_bad = bad_2;
  third_is_bad = bad_3;
  idle = counts;
  waiting = waiting;
}

-- two cores are idle as round 2 begins
two_idle : idle_at leaving four_cores four_cores_history 13 ≡ 2
unfolding acts touches effect after_from attempt_of candidates_of choice_of target_of opening_state is_due is_complete core_after_event handed_all received_all released scene_of entering_next waking_next worked holding_cases outcomes_of task_after_set pair_values core_values thread_values event_values idle_count
two_idle = refl

-- and two rounds are bad
too_many : OneRoundLess leaving four_cores four_cores_history → ⊥
too_many less =
    let few = less 2 3 13 (2 ∷ 3 ∷ []) stretch refl rising both in
    let idle = two_idle in
    absurd (omega arith)
  where
    rising : IsStrictlyIncreasing (2 ∷ 3 ∷ [])
    rising zero inside = omega arith
    rising (suc k) inside = absurd (omega arith)

    both : All (λ number. (2 ≤ number) × (number ≤ 3) × IsBad leaving four_cores four_cores_history number) (2 ∷ 3 ∷ [])
    both zero d inside = (omega arith, omega arith, bad_2)
    both (suc zero) d inside = (omega arith, omega arith, bad_3)
    both (suc (suc k)) d inside = absurd (omega arith)

-- one core is idle as round 3 begins
too_soon : OneRoundSooner leaving four_cores four_cores_history → ⊥
too_soon sooner =
    let idle = two_idle in
    let third : 2 + (idle_at leaving four_cores four_cores_history 13 - 1) ≡ 3 = omega arith in
    let from : BeginsAt four_cores_history (2 + (idle_at leaving four_cores four_cores_history 13 - 1)) 22 = subst (λ n. BeginsAt four_cores_history n 22) (sym third) refl in
    let there : InStretch four_cores_history 2 3 22 = record { opening = 13; begins = refl; not_before = omega arith; not_after = omega arith; there = omega arith } in
    sooner 2 3 13 22 22 stretch refl from (omega arith) there beside_3

pub no_round_less : NoRoundLess
no_round_less = record {
  not_one_less = λ every. too_many (every leaving four_cores four_cores_history fits meets leaves legal);
  not_one_sooner = λ every. too_soon (every leaving four_cores four_cores_history fits meets leaves legal);
}

pub mended_misses : MendedMisses
unfolding LegalNext Row acts touches effect after_from attempt_of candidates_of choice_of target_of opening_state is_due is_complete core_after_event handed_all received_all released scene_of entering_next waking_next worked holding_cases outcomes_of task_after_set pair_values core_values thread_values event_values
mended_misses = λ next. absurd (let is = next.row.outcome in cc)
