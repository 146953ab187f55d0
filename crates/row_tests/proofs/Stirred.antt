-- The history of two cores is legal, and its second round is bad and ends with one core idle, as it began.
use Rattle.std.proofs.Common.{◌≡◌, ◌<◌, ◌+◌, ℕ, zero, suc, [], ◌∷◌, All, get_or, inr, refl, arith, slice_index_or, map}
use Rattle.std.proofs.lemmas.List.Elements.{All-from_recursion}
use Rattle.policy_eval.specs.Events.{holding_cases, outcomes_of, task_after_set}
use Rattle.policy_eval.specs.LastWaiting.{LeavesLastToIdle}
use Rattle.policy_eval.specs.Obligations.{MeetsObligations}
use Rattle.policy_eval.specs.Ranges.{AreIn, attribute_ranges}
use Rattle.policy_eval.specs.Sights.{core_values, event_values, pair_values, thread_values}
use Rattle.round_model.specs.After.{after_from, effect}
use Rattle.round_model.specs.Attempts.{attempt_of}
use Rattle.round_model.specs.Choices.{candidates_of, choice_of, target_of}
use Rattle.round_model.specs.Cores.{opening_state}
use Rattle.round_model.specs.Entries.{acts, touches}
use Rattle.round_model.specs.Fits.{Fits, ThreadFits}
use Rattle.round_model.specs.Legal.{Legal, LegalNext, is_complete, is_due}
use Rattle.round_model.specs.Moves.{core_after_event, handed_all, received_all, released}
use Rattle.round_model.specs.Rounds.{Attempts, IsBad}
use Rattle.round_model.specs.Rows.{Row}
use Rattle.round_model.specs.Scenes.{entering_next, scene_of, waking_next}
use Rattle.round_model.specs.Spread.{idle_count}
use Rattle.round_model.specs.Work.{worked}
use Rattle.round_model.specs.declared.entry.Entry.TheVariants as entry
use Rattle.round_model.specs.declared.plan.Planned.{Planned}
use Rattle.round_model.proofs.Walks.{LegalFrom, legal_walk, reads_within}
use Rattle.round_laws.specs.IdleBound.{EndsAt, idle_at}
use Rattle.round_laws.proofs.EqualWeights.{equal_weights}
use Rattle.model_tests.proofs.PolicyRows.{worked_policies_fit, zeros_fit}
use Rattle.model_tests.specs.Policies.{basic}
use Rattle.row_tests.specs.Stirred.{NeedsStillness, StirredRoundsFill, one_ends, one_ends_history}

steps : LegalFrom basic one_ends [] one_ends_history
unfolding LegalNext Row acts touches effect after_from attempt_of candidates_of choice_of target_of opening_state is_due is_complete core_after_event handed_all received_all released scene_of entering_next waking_next worked holding_cases outcomes_of task_after_set pair_values core_values thread_values event_values
steps = (
  record { complete = refl; due = refl; next = refl },
  (
    record { begun = omega arith; row = record { core = omega arith; next = refl; placement = record { read = refl; target = refl } } },
    (
      record { begun = omega arith; row = record { core = omega arith; next = refl; placement = record { read = refl; target = refl } } },
      (
        record { begun = omega arith; row = record { core = omega arith; entered = refl; woken = refl; first = refl; outcome = (0, omega arith, refl) } },
        (
          record { begun = omega arith; row = record { core = omega arith; worked = refl; first = refl; read = record { one_each = refl; each = reads_within 1 4 (4 ∷ 1 ∷ []) refl }; outcome = refl } },
          (
            record { begun = omega arith; row = record { core = omega arith; entered = refl; woken = refl; first = refl; outcome = (0, omega arith, refl) } },
            (
              record { begun = omega arith; row = record { core = omega arith; worked = refl; first = refl; read = record { one_each = refl; each = reads_within 1 6 (1 ∷ 6 ∷ []) refl }; outcome = refl } },
              (
                record { complete = refl; due = refl; next = refl },
                (
                  record { begun = omega arith; row = record { core = omega arith; entered = refl; woken = refl; first = refl; outcome = (0, omega arith, refl) } },
                  (
                    record { begun = omega arith; row = record { core = omega arith; worked = refl; first = refl; read = record { one_each = refl; each = reads_within 8 9 (9 ∷ 8 ∷ []) refl }; outcome = refl } },
                    (
                      record { begun = omega arith; row = record { core = omega arith; entered = refl; woken = refl; first = refl; outcome = (0, omega arith, refl) } },
                      (
                        record { begun = omega arith; row = record { core = omega arith; worked = refl; first = refl; read = record { one_each = refl; each = reads_within 8 11 (9 ∷ 11 ∷ []) refl }; outcome = refl } },
                        tt,
                      ),
                    ),
                  ),
                ),
              ),
            ),
          ),
        ),
      ),
    ),
  ),
)

legal : Legal basic one_ends one_ends_history
legal = legal_walk basic one_ends one_ends_history steps

thread_fits : All (ThreadFits basic 2) one_ends.threads
thread_fits = All-from_recursion (ThreadFits basic 2) one_ends.threads (
  record {
    id_positive = omega arith;
    id_small = omega arith;
    core = omega arith;
    weight = record { least = omega arith; greatest = omega arith };
    program = (omega arith, omega arith, tt);
    few_bursts = omega arith;
  },
  (
    record {
      id_positive = omega arith;
      id_small = omega arith;
      core = omega arith;
      weight = record { least = omega arith; greatest = omega arith };
      program = (omega arith, omega arith, refl);
      few_bursts = omega arith;
    },
    tt,
  ),
)

numbered : (k : ℕ) (d : Planned) → k < 2 → (get_or one_ends.threads k d).id ≡ k + 1
numbered zero d inside = refl
numbered (suc zero) d inside = refl
numbered (suc (suc k)) d inside = absurd (omega arith)

fits : Fits basic one_ends
fits = record {
  policy = worked_policies_fit.basic_resolved;
  some_cores = omega arith;
  consts_each = refl;
  consts = All-from_recursion (AreIn (attribute_ranges [])) one_ends.consts (zeros_fit, (zeros_fit, tt));
  few_threads = omega arith;
  threads = thread_fits;
  distinct = λ i j d below inside same. absurd (omega (arith, numbered i d (omega arith), numbered j d inside));
  orders = λ k d inside. absurd (omega arith);
  one_order_each = λ i j d below inside. absurd (omega arith);
}

attempts : (c : ℕ) → c < 2 → Attempts one_ends_history 2 c
unfolding acts
attempts zero there = record { position = 9; attempt = slice_index_or one_ends_history 9 (entry.Round 0); stands = refl; in_round = refl; by_core = refl; is = refl }
attempts (suc zero) there = record { position = 11; attempt = slice_index_or one_ends_history 11 (entry.Round 0); stands = refl; in_round = refl; by_core = refl; is = refl }
attempts (suc (suc c)) there = absurd (omega arith)

bad : IsBad basic one_ends one_ends_history 2
unfolding touches effect after_from opening_state core_after_event handed_all received_all released worked holding_cases outcomes_of task_after_set pair_values core_values thread_values event_values
bad = record {
  position = 7;
  begins = refl;
  complete = attempts;
  beside = record { idle = 1; overloaded = 0; idle_there = omega arith; overloaded_there = omega arith; is_idle = refl; is_overloaded = omega arith };
}

counts : map (idle_at basic one_ends one_ends_history) (7 ∷ 12 ∷ []) ≡ 1 ∷ 1 ∷ []
unfolding touches effect after_from opening_state core_after_event handed_all received_all released worked holding_cases outcomes_of task_after_set pair_values core_values thread_values event_values idle_count
counts = refl

idle_then : idle_at basic one_ends one_ends_history 7 ≡ 1
unfolding touches effect after_from opening_state core_after_event handed_all received_all released worked holding_cases outcomes_of task_after_set pair_values core_values thread_values event_values idle_count
idle_then = refl

idle_later : idle_at basic one_ends one_ends_history 12 ≡ 1
unfolding touches effect after_from opening_state core_after_event handed_all received_all released worked holding_cases outcomes_of task_after_set pair_values core_values thread_values event_values idle_count
idle_later = refl

meets : MeetsObligations basic
meets = worked_policies_fit.basic_meets

leaves : LeavesLastToIdle basic
leaves = equal_weights basic meets refl

fills_none : StirredRoundsFill basic one_ends one_ends_history → ⊥
fills_none fills =
    let ends : EndsAt one_ends_history 2 12 = record { in_round = refl; last = inr refl } in
    let fewer = fills 2 7 12 bad refl ends in
    let before = idle_then in
    let behind = idle_later in
    absurd (omega arith)

pub needs_stillness : NeedsStillness
needs_stillness = record {
  meets = meets;
  leaves = leaves;
  fits = fits;
  legal = legal;
  second_is_bad = bad;
  idle = counts;
  not_every_round = λ every. fills_none (every basic one_ends one_ends_history fits meets leaves legal);
}
