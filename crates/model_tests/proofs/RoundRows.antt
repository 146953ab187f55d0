-- Rounds, causes, phases and owed entries of the worked histories.
use Rattle.std.proofs.Common.{◌≡◌, ◌≢◌, ◌≤◌, ◌<◌, ◌⊎◌, ⊎_elim, inl, inr, ℕ, zero, suc, [], ◌∷◌, refl, arith, slice_index, slice_index_or, subst, take, ap, sym}
use mathlib.Core.Option.{some-injective}
use Rattle.policy_eval.specs.Events.{holding_cases, outcomes_of, task_after_set}
use Rattle.policy_eval.specs.Sights.{core_values, event_values, pair_values, thread_values}
use Rattle.round_model.specs.After.{after, after_from, effect}
use Rattle.round_model.specs.Attempts.{attempt_of}
use Rattle.round_model.specs.Choices.{candidates_of, choice_of, target_of}
use Rattle.round_model.specs.declared.state.CountAndLoad.{CountAndLoad}
use Rattle.round_model.specs.Cores.{opening_state, thread_count}
use Rattle.round_model.specs.Entries.{acts, touches}
use Rattle.round_model.specs.Legal.{is_complete, is_due}
use Rattle.round_model.specs.Moves.{core_after_event, handed_all, received_all, released}
use Rattle.round_model.specs.Scenes.{entering_next, scene_of, waking_next}
use Rattle.round_model.specs.Work.{worked}
use Rattle.round_model.specs.declared.entry.Entry.TheVariants as entry
use Rattle.round_model.specs.Explains.{Explains}
use Rattle.round_model.specs.Owed.{owed}
use Rattle.round_model.specs.Reads.{value_read}
use Rattle.round_model.specs.Spread.{Beside}
use Rattle.round_model.specs.Rounds.{Attempts, IsBad}
use Rattle.model_tests.proofs.Beginnings.{begins_alone}
use Rattle.round_model.proofs.Stillness.{still_by_test}
use Rattle.model_tests.specs.Plans.{eight_threads, stale_read}
use Rattle.model_tests.specs.Policies.{basic}
use Rattle.model_tests.specs.RoundRows.{EightThreadsRounds, OwedEntries, StaleReadExplained, ThreadPhases}
use Rattle.model_tests.specs.Histories.{eight_threads_history, stale_read_history}

-- the attempts of round 2, each after a unit of work
attempts_of_2 : (c : ℕ) → c < 4 → Attempts eight_threads_history 2 c
unfolding acts touches effect after_from attempt_of candidates_of choice_of target_of opening_state is_due is_complete core_after_event handed_all received_all released scene_of entering_next waking_next worked holding_cases outcomes_of task_after_set pair_values core_values thread_values event_values owed
attempts_of_2 zero there = record { position = 19; attempt = slice_index_or eight_threads_history 19 (entry.Round 0); stands = refl; in_round = refl; by_core = refl; is = refl }
attempts_of_2 (suc zero) there = record { position = 21; attempt = slice_index_or eight_threads_history 21 (entry.Round 0); stands = refl; in_round = refl; by_core = refl; is = refl }
attempts_of_2 (suc (suc zero)) there = record { position = 23; attempt = slice_index_or eight_threads_history 23 (entry.Round 0); stands = refl; in_round = refl; by_core = refl; is = refl }
attempts_of_2 (suc (suc (suc zero))) there = record { position = 25; attempt = slice_index_or eight_threads_history 25 (entry.Round 0); stands = refl; in_round = refl; by_core = refl; is = refl }
attempts_of_2 (suc (suc (suc (suc c)))) there = absurd (omega arith)

-- as round 3 begins no core is idle
count_3 : (c : ℕ) → c < 4 → 1 ≤ thread_count (after basic eight_threads (take 26 eight_threads_history) c)
unfolding acts touches effect after_from attempt_of candidates_of choice_of target_of opening_state is_due is_complete core_after_event handed_all received_all released scene_of entering_next waking_next worked holding_cases outcomes_of task_after_set pair_values core_values thread_values event_values owed
count_3 zero there = omega arith
count_3 (suc zero) there = omega arith
count_3 (suc (suc zero)) there = omega arith
count_3 (suc (suc (suc zero))) there = omega arith
count_3 (suc (suc (suc (suc c)))) there = absurd (omega arith)

busy_3 : IsBad basic eight_threads eight_threads_history 3 → ⊥
busy_3 bad =
    let at_26 : bad.position ≡ 26 = begins_alone 3 26 eight_threads_history refl bad.position bad.begins in
    let beside : Beside eight_threads (after basic eight_threads (take 26 eight_threads_history)) = subst (λ k. Beside eight_threads (after basic eight_threads (take k eight_threads_history))) at_26 bad.beside in
    let some = count_3 beside.idle beside.idle_there in let none = beside.is_idle in
    omega arith

-- the failed steal is that of core 2 at core 0
module _ (cause : ℕ) (x : Explains basic stale_read stale_read_history 8 cause) where
  failed : entry.Fail 2 0 (5 ∷ 6 ∷ 7 ∷ []) ≡ entry.Fail x.thief x.victim x.reads
  failed = some-injective _ _ x.fails

  core_2_or_0 : (x.core ≡ 2) ⊎ (x.core ≡ 0)
  core_2_or_0 =
      let fail = failed in
      ⊎_elim (λ (h : x.core ≡ x.thief). inl (cc)) (λ (h : x.core ≡ x.victim). inr (cc)) x.thief_or_victim

  late : 5 ≤ cause
  late =
      let fail = failed in
      let reads : x.reads ≡ 5 ∷ 6 ∷ 7 ∷ [] = cc in
      let read : slice_index (5 ∷ 6 ∷ 7 ∷ []) x.core ≤ cause = subst (λ rs. slice_index rs x.core ≤ cause) reads x.after_read in
      ⊎_elim
      (λ (h : x.core ≡ 2). let seven : 7 ≤ cause = subst (λ c. slice_index (5 ∷ 6 ∷ 7 ∷ []) c ≤ cause) h read in omega arith)
      (λ (h : x.core ≡ 0). subst (λ c. slice_index (5 ∷ 6 ∷ 7 ∷ []) c ≤ cause) h read)
      core_2_or_0

same_before_7 : (c : ℕ) → (c ≡ 2) ⊎ (c ≡ 0) → value_read basic stale_read stale_read_history c 6 ≡ value_read basic stale_read stale_read_history c 7
unfolding acts touches effect after_from attempt_of candidates_of choice_of target_of opening_state is_due is_complete core_after_event handed_all received_all released scene_of entering_next waking_next worked holding_cases outcomes_of task_after_set pair_values core_values thread_values event_values owed
same_before_7 c which = ⊎_elim
    (λ (h : c ≡ 2). subst (λ d. value_read basic stale_read stale_read_history d 6 ≡ value_read basic stale_read stale_read_history d 7) (sym h) refl)
    (λ (h : c ≡ 0). subst (λ d. value_read basic stale_read stale_read_history d 6 ≡ value_read basic stale_read stale_read_history d 7) (sym h) refl)
    which

same_before_6 : (c : ℕ) → (c ≡ 2) ⊎ (c ≡ 0) → value_read basic stale_read stale_read_history c 5 ≡ value_read basic stale_read stale_read_history c 6
unfolding acts touches effect after_from attempt_of candidates_of choice_of target_of opening_state is_due is_complete core_after_event handed_all received_all released scene_of entering_next waking_next worked holding_cases outcomes_of task_after_set pair_values core_values thread_values event_values owed
same_before_6 c which = ⊎_elim
    (λ (h : c ≡ 2). subst (λ d. value_read basic stale_read stale_read_history d 5 ≡ value_read basic stale_read stale_read_history d 6) (sym h) refl)
    (λ (h : c ≡ 0). subst (λ d. value_read basic stale_read stale_read_history d 5 ≡ value_read basic stale_read stale_read_history d 6) (sym h) refl)
    which

-- between what was read and the failed steal, the idle units of cores 1 and 2 change neither core
not_5 : Explains basic stale_read stale_read_history 8 5 → ⊥
not_5 x = x.changes (same_before_6 x.core (core_2_or_0 5 x))

not_6 : Explains basic stale_read stale_read_history 8 6 → ⊥
not_6 x = x.changes (same_before_7 x.core (core_2_or_0 6 x))

only_7 : (cause : ℕ) → Explains basic stale_read stale_read_history 8 cause → cause ≡ 7
only_7 cause x =
    let not_at_5 : cause ≢ 5 = λ at. not_5 (subst (Explains basic stale_read stale_read_history 8) at x) in
    let not_at_6 : cause ≢ 6 = λ at. not_6 (subst (Explains basic stale_read stale_read_history 8) at x) in
    let low = late cause x in let high = x.before_fail in
    omega arith

pub eight_threads_rounds : EightThreadsRounds
unfolding acts touches effect after_from attempt_of candidates_of choice_of target_of opening_state is_due is_complete core_after_event handed_all received_all released scene_of entering_next waking_next worked holding_cases outcomes_of task_after_set pair_values core_values thread_values event_values owed
eight_threads_rounds = record {
  second_is_bad = record {
    position = 17;
    begins = refl;
    complete = attempts_of_2;
    beside = record { idle = 1; overloaded = 0; idle_there = omega arith; overloaded_there = omega arith; is_idle = refl; is_overloaded = omega arith };
  };
  third_is_not = busy_3;
  later_are_still = record { positive = omega arith; ordered = omega arith; begun = omega arith; still = still_by_test eight_threads_history 2 4 refl };
  first_is_not = λ still. absurd (let quiet = still 7 (slice_index_or eight_threads_history 7 (entry.Round 0)) refl (omega arith) (omega arith) in cc);
  end_is_in_stretch = record { opening = 17; begins = refl; not_before = omega arith; not_after = omega arith; there = omega arith };
  opening_of_the_next_is_in_stretch = record { opening = 17; begins = refl; not_before = omega arith; not_after = omega arith; there = omega arith };
  entry_of_the_next_is_not = λ in_it. absurd (let late = in_it.not_after in omega arith);
  opening_of_the_first_is_before = λ in_it.
      absurd (let begins = begins_alone 2 17 eight_threads_history refl in_it.opening in_it.begins in let not_before = in_it.not_before in omega arith);
}

pub stale_read_explained : StaleReadExplained
unfolding acts touches effect after_from attempt_of candidates_of choice_of target_of opening_state is_due is_complete core_after_event handed_all received_all released scene_of entering_next waking_next worked holding_cases outcomes_of task_after_set pair_values core_values thread_values event_values owed
stale_read_explained = record {
  by_the_steal = record {
    thief = 2;
    victim = 0;
    reads = 5 ∷ 6 ∷ 7 ∷ [];
    fails = refl;
    core = 0;
    thief_or_victim = inr refl;
    after_read = omega arith;
    before_fail = omega arith;
    changes = λ same. let counts : ◌≡◌ {A = ℕ} 2 1 = ap (λ (read : CountAndLoad). read.nr) same in absurd (omega arith);
  };
  not_by_an_idle_unit = not_6;
  not_by_what_was_read = λ x. absurd (let after_it = late 3 x in omega arith);
  only = only_7;
  no_fail_no_cause = λ x. absurd (let fails = x.fails in let same : entry.Steal 1 0 (2 ∷ []) (5 ∷ 6 ∷ 1 ∷ []) ≡ entry.Fail x.thief x.victim x.reads = some-injective _ _ fails in cc);
}

pub thread_phases : ThreadPhases
unfolding acts touches effect after_from attempt_of candidates_of choice_of target_of opening_state is_due is_complete core_after_event handed_all received_all released scene_of entering_next waking_next worked holding_cases outcomes_of task_after_set pair_values core_values thread_values event_values owed
thread_phases = record { phases = refl; stands = refl }

pub owed_entries : OwedEntries
unfolding acts touches effect after_from attempt_of candidates_of choice_of target_of opening_state is_due is_complete core_after_event handed_all received_all released scene_of entering_next waking_next worked holding_cases outcomes_of task_after_set pair_values core_values thread_values event_values owed
owed_entries = record { at_first = refl; in_round_1 = refl; in_round_2 = refl; at_the_end = refl; one_to_wake = refl }
