-- The reports that tell of waste on the worked histories.
use Rattle.std.proofs.Common.{◌≡◌, ℕ, zero, suc, ◌≤◌, ◌⊎◌, inl, inr, [], ◌∷◌, All, refl, ap, subst, ◌∙◌, arith, slice_index}
use mathlib.Core.Option.{some-injective}
use Rattle.policy_eval.specs.Events.{holding_cases, outcomes_of, task_after_set}
use Rattle.policy_eval.specs.Sights.{core_values, event_values, pair_values, thread_values}
use Rattle.round_model.specs.After.{after_from, effect}
use Rattle.round_model.specs.Cores.{opening_state}
use Rattle.round_model.specs.Entries.{touches}
use Rattle.round_model.specs.Explains.{Explains}
use Rattle.round_model.specs.Moves.{core_after_event, handed, handed_all, received, received_all, released}
use Rattle.round_model.specs.Reads.{value_read}
use Rattle.round_model.specs.Rounds.{IsStill}
use Rattle.round_model.specs.Spread.{idle_count, spread}
use Rattle.round_model.specs.StillRounds.{spread_at}
use Rattle.round_model.specs.Stretches.{IsStillStretch}
use Rattle.round_model.specs.Work.{worked}
use Rattle.round_model.specs.declared.entry.Entry.TheVariants as entry
use Rattle.round_model.proofs.Stillness.{still_by_test}
use Rattle.sched_report.specs.CauseRows.{AreCauseRows, IsCause}
use Rattle.sched_report.specs.Reports.{totals_of}
use Rattle.sched_report.specs.Rests.{first_rest, gap_at_rest}
use Rattle.sched_report.specs.RoundRows.{bad_within, round_row, round_rows}
use Rattle.sched_report.specs.StillRows.{AreStillRows, IsStillRow}
use Rattle.sched_report.specs.StretchRows.{HasSteals}
use Rattle.sched_report.specs.declared.rows.CauseRow.{CauseRow}
use Rattle.model_tests.specs.Histories.{eight_threads_history}
use Rattle.row_tests.specs.Wastes.{EagerWaste, EightThreadsWaste, TimidWaste, eager, eager_waste, eight_threads_waste, one_thread, one_thread_history, timid, timid_stretch, timid_waste, two_threads, two_threads_history}
use Rattle.row_tests.proofs.Reported.{behind_first, eight_threads_reported}

-- the one stretch of the eight threads has all steals
eight_threads_steals : All (HasSteals eight_threads_history) eight_threads_waste.stretches
eight_threads_steals zero d inside = refl
eight_threads_steals (suc k) d inside = absurd (omega arith)

pub eight_threads_wasted : EightThreadsWaste
eight_threads_wasted = record {
  rounds = eight_threads_reported.rounds;
  stretches = record { stills = eight_threads_reported.stills; steals = eight_threads_steals };
  causes = record { positions = refl; each = λ k d inside. absurd (omega arith) };
  totals = eight_threads_reported.totals;
}

-- one thread, and a policy that takes from a core with nothing queued
eager_rounds : eager_waste.rounds ≡ round_rows eager one_thread one_thread_history
unfolding round_row gap_at_rest idle_count spread touches effect after_from opening_state core_after_event handed handed_all received received_all released worked holding_cases outcomes_of task_after_set pair_values core_values thread_values event_values
eager_rounds = refl

eager_totals : eager_waste.totals ≡ totals_of one_thread_history eager_waste.rounds
unfolding totals_of
eager_totals = refl

eager_stirred : ¬ IsStill one_thread_history 1 1
eager_stirred still = absurd (let quiet = still 1 (entry.Enter 1 0 0 []) refl (omega arith) (omega arith) in cc)

eager_stills : AreStillRows eager one_thread one_thread_history []
eager_stills = record {
  each = λ k d inside. absurd (omega arith);
  all = λ first last is.
      let behind = behind_first one_thread_history eager_stirred first last is.still in
      let begun : last ≤ 1 = is.still.begun in
      let order = is.still.ordered in
      absurd (omega arith);
  ordered = λ k inside. absurd (omega arith);
}

-- between the look and the Fail stands a unit without a thread alone
same_value : value_read eager one_thread one_thread_history 0 4 ≡ value_read eager one_thread one_thread_history 0 5
unfolding touches effect after_from opening_state core_after_event handed handed_all received received_all released worked holding_cases outcomes_of task_after_set pair_values core_values thread_values event_values
same_value = refl

module _ (cause : ℕ) (x : Explains eager one_thread one_thread_history 5 cause) where
  failed : entry.Fail 1 0 (4 ∷ 5 ∷ []) ≡ entry.Fail x.thief x.victim x.reads
  failed = some-injective _ _ x.fails

  by_core : (x.core ≡ 1) ⊎ (x.core ≡ 0) → ⊥
  by_core (inl thief) =
      let fail = failed in
      let reads : x.reads ≡ 4 ∷ 5 ∷ [] = cc in
      let read : slice_index (4 ∷ 5 ∷ []) x.core ≤ cause = subst (λ rs. slice_index rs x.core ≤ cause) reads x.after_read in
      let five : 5 ≤ cause = subst (λ c. slice_index (4 ∷ 5 ∷ []) c ≤ cause) thief read in
      let before = x.before_fail in
      absurd (omega arith)
  by_core (inr victim) =
      let fail = failed in
      let reads : x.reads ≡ 4 ∷ 5 ∷ [] = cc in
      let read : slice_index (4 ∷ 5 ∷ []) x.core ≤ cause = subst (λ rs. slice_index rs x.core ≤ cause) reads x.after_read in
      let four : 4 ≤ cause = subst (λ c. slice_index (4 ∷ 5 ∷ []) c ≤ cause) victim read in
      let before = x.before_fail in
      let same : cause ≡ 4 = omega arith in
      let moved = subst (λ c. ¬ (value_read eager one_thread one_thread_history c cause ≡ value_read eager one_thread one_thread_history c (suc cause))) victim x.changes in
      subst (λ k. ¬ (value_read eager one_thread one_thread_history 0 k ≡ value_read eager one_thread one_thread_history 0 (suc k))) same moved same_value

  which : (x.core ≡ x.thief) ⊎ (x.core ≡ x.victim) → (x.core ≡ 1) ⊎ (x.core ≡ 0)
  which (inl thief) = let fail = failed in inl (cc)
  which (inr victim) = let fail = failed in inr (cc)

  not_explained : ⊥
  not_explained = by_core (which x.thief_or_victim)

eager_causes : AreCauseRows eager one_thread one_thread_history eager_waste.causes
eager_causes = record { positions = refl; each = each }
  where
    each : All (λ (row : CauseRow). IsCause eager one_thread one_thread_history row.at row.by) eager_waste.causes
    each zero d inside = λ cause explains. not_explained cause explains
    each (suc k) d inside = absurd (omega arith)

pub eager_wasted : EagerWaste
eager_wasted = record {
  rounds = eager_rounds;
  stretches = record { stills = eager_stills; steals = λ k d inside. absurd (omega arith) };
  causes = eager_causes;
  totals = eager_totals ∙ ap (totals_of one_thread_history) eager_rounds;
}

-- two threads, and a policy that leaves them on one core
timid_rounds : timid_waste.rounds ≡ round_rows timid two_threads two_threads_history
unfolding round_row gap_at_rest idle_count spread touches effect after_from opening_state core_after_event handed handed_all received received_all released worked holding_cases outcomes_of task_after_set pair_values core_values thread_values event_values
timid_rounds = refl

timid_totals : timid_waste.totals ≡ totals_of two_threads_history timid_waste.rounds
unfolding totals_of
timid_totals = refl

timid_stirred : ¬ IsStill two_threads_history 1 1
timid_stirred still = absurd (let quiet = still 1 (entry.Enter 1 0 0 []) refl (omega arith) (omega arith) in cc)

timid_still : IsStillStretch two_threads_history 2 3
timid_still = record { positive = omega arith; ordered = omega arith; begun = omega arith; still = still_by_test two_threads_history 2 3 refl }

timid_spread : timid_stretch.spread ≡ spread_at timid two_threads two_threads_history 7
unfolding spread touches effect after_from opening_state core_after_event handed handed_all received received_all released worked holding_cases outcomes_of task_after_set pair_values core_values thread_values event_values
timid_spread = refl

timid_row : IsStillRow timid two_threads two_threads_history timid_stretch
timid_row = record {
  longest = record {
    still = timid_still;
    alone = λ from to is low high.
        let behind = behind_first two_threads_history timid_stirred from to is in
        let begun : to ≤ 3 = is.begun in
        (omega arith, omega arith);
  };
  opening = 7;
  begins = refl;
  spread = timid_spread;
  bad = ap (λ rows. bad_within rows 2 3) timid_rounds;
  rest = ap (λ rows. first_rest rows 2 3) timid_rounds;
}

timid_stills : AreStillRows timid two_threads two_threads_history (timid_stretch ∷ [])
timid_stills = record {
  each = each;
  all = λ first last is.
      let behind = behind_first two_threads_history timid_stirred first last is.still in
      let begun : last ≤ 3 = is.still.begun in
      let same = is.alone 2 3 timid_still behind begun in
      record { row = timid_stretch; among = (0, omega arith, refl); first_is = same.0; last_is = same.1 };
  ordered = λ k inside. absurd (omega arith);
}
  where
    each : All (IsStillRow timid two_threads two_threads_history) (timid_stretch ∷ [])
    each zero d inside = timid_row
    each (suc k) d inside = absurd (omega arith)

timid_steals : All (HasSteals two_threads_history) timid_waste.stretches
timid_steals zero d inside = refl
timid_steals (suc k) d inside = absurd (omega arith)

pub timid_wasted : TimidWaste
timid_wasted = record {
  rounds = timid_rounds;
  stretches = record { stills = timid_stills; steals = timid_steals };
  causes = record { positions = refl; each = λ k d inside. absurd (omega arith) };
  totals = timid_totals ∙ ap (totals_of two_threads_history) timid_rounds;
}
