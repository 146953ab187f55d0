-- The history of 100 cores is legal.
use Rattle.std.proofs.Common.{◌≡◌, ◌≢◌, ℕ, zero, suc, ◌+◌, ◌<◌, ◌≤◌, [], ◌∷◌, All, get_or, refl, arith}
use Rattle.std.proofs.lemmas.List.{length-replicate}
use Rattle.std.proofs.lemmas.List.Elements.{All-from_recursion, All-nil, All-replicate}
use Rattle.policy_eval.specs.Events.{holding_cases, outcomes_of, task_after_set}
use Rattle.policy_eval.specs.Ranges.{AreIn, attribute_ranges}
use Rattle.policy_eval.specs.Sights.{core_values, event_values, no_attributes, pair_values, thread_values}
use Rattle.round_model.specs.After.{after, after_from, effect}
use Rattle.round_model.specs.Attempts.{attempt_of}
use Rattle.round_model.specs.Choices.{candidates_of, choice_of, target_of}
use Rattle.round_model.specs.Cores.{opening_state, thread_count}
use Rattle.round_model.specs.Entries.{acts, touches}
use Rattle.round_model.specs.Fits.{Fits, ThreadFits}
use Rattle.round_model.specs.Legal.{Legal, LegalNext, is_complete, is_due}
use Rattle.round_model.specs.Limits.{IsWithinLimits}
use Rattle.round_model.specs.Moves.{core_after_event, handed_all, received_all, released}
use Rattle.round_model.specs.Reads.{IsReadOf, ReadsFit}
use Rattle.round_model.specs.Rows.{Row}
use Rattle.round_model.specs.Scenes.{entering_next, scene_of, waking_next}
use Rattle.round_model.specs.Work.{worked}
use Rattle.round_model.specs.declared.plan.Planned.{Planned}
use Rattle.round_model.proofs.Walks.{LegalFrom, legal_walk}
use Rattle.round_laws.proofs.MainTheorem.{main_theorem}
use Rattle.model_tests.proofs.PolicyRows.{worked_policies_fit, zeros_fit}
use Rattle.model_tests.specs.Policies.{basic}
use Rattle.row_tests.specs.HundredCores.{HundredCoresKeepLaws, hundred_cores, hundred_history, one_look}

-- the look fits the round from the moment on at which it was made
look_fits : (position : ℕ) → 4 ≤ position → ReadsFit 100 1 position one_look
look_fits position late = record {
  one_each = length-replicate {A = ℕ} 100 4;
  each = All-replicate (IsReadOf 1 position) 100 4 (record { in_round = omega arith; before_entry = late });
}

steps : LegalFrom basic hundred_cores [] hundred_history
unfolding LegalNext Row acts touches effect after_from attempt_of candidates_of choice_of target_of opening_state is_due is_complete core_after_event handed_all received_all released scene_of entering_next waking_next worked holding_cases outcomes_of task_after_set pair_values core_values thread_values event_values
steps = (
  record { complete = refl; due = refl; next = refl },
  (
    record { begun = omega arith; row = record { core = omega arith; next = refl; placement = record { read = refl; target = refl } } },
    (
      record { begun = omega arith; row = record { core = omega arith; next = refl; placement = record { read = refl; target = refl } } },
      (
        record { begun = omega arith; row = record { core = omega arith; entered = refl; woken = refl; first = refl; outcome = (0, omega arith, refl) } },
        (
          record { begun = omega arith; row = record { core = omega arith; entered = refl; woken = refl; first = refl; outcome = (0, omega arith, refl) } },
          (
            record { begun = omega arith; row = record { core = omega arith; worked = refl; first = refl; read = look_fits 5 (omega arith); outcome = refl } },
            (
              record { begun = omega arith; row = record { core = omega arith; entered = refl; woken = refl; first = refl; outcome = (0, omega arith, refl) } },
              (
                record { begun = omega arith; row = record { core = omega arith; worked = refl; first = refl; read = look_fits 7 (omega arith); outcome = refl } },
                tt,
              ),
            ),
          ),
        ),
      ),
    ),
  ),
)

legal : Legal basic hundred_cores hundred_history
legal = legal_walk basic hundred_cores hundred_history steps

stolen : thread_count (after basic hundred_cores hundred_history 99) ≡ 1
unfolding touches effect after_from opening_state core_after_event handed_all received_all released worked holding_cases outcomes_of task_after_set pair_values core_values thread_values event_values
stolen = refl

thread_fits : All (ThreadFits basic 100) hundred_cores.threads
thread_fits = All-from_recursion (ThreadFits basic 100) hundred_cores.threads (
  record {
    id_positive = omega arith;
    id_small = omega arith;
    core = omega arith;
    weight = record { least = omega arith; greatest = omega arith };
    program = (omega arith, omega arith, refl);
    few_bursts = omega arith;
  },
  (
    record {
      id_positive = omega arith;
      id_small = omega arith;
      core = omega arith;
      weight = record { least = omega arith; greatest = omega arith };
      program = (omega arith, omega arith, refl);
      few_bursts = omega arith;
    },
    tt,
  ),
)

numbered : (k : ℕ) (d : Planned) → k < 2 → (get_or hundred_cores.threads k d).id ≡ k + 1
numbered zero d inside = refl
numbered (suc zero) d inside = refl
numbered (suc (suc k)) d inside = absurd (omega arith)

fits : Fits basic hundred_cores
fits = record {
  policy = worked_policies_fit.basic_resolved;
  some_cores = omega arith;
  consts_each = length-replicate 100 no_attributes;
  consts = All-replicate (AreIn (attribute_ranges [])) 100 no_attributes zeros_fit;
  few_threads = omega arith;
  threads = thread_fits;
  distinct = λ i j d below inside same. absurd (omega (arith, numbered i d (omega arith), numbered j d inside));
  orders = All-nil _;
  one_order_each = λ i j d below inside. absurd (omega arith);
}

pub hundred_cores_keep_laws : HundredCoresKeepLaws
hundred_cores_keep_laws = record {
  meets = worked_policies_fit.basic_meets;
  fits = fits;
  legal = legal;
  keeps = main_theorem basic worked_policies_fit.basic_meets hundred_cores hundred_history fits legal;
  stolen = stolen;
  wide = λ limits. let few = limits.few_cores in absurd (omega arith);
}
