-- The reports on the worked histories.
use Rattle.std.proofs.Common.{◌≡◌, ℕ, zero, suc, ◌<◌, ◌≤◌, ◌⊎◌, inl, inr, List, [], ◌∷◌, All, refl, ap, ◌∙◌, arith}
use Rattle.std.proofs.lemmas.Bool.{cases_lt}
use Rattle.policy_eval.specs.Events.{holding_cases, outcomes_of, task_after_set}
use Rattle.policy_eval.specs.Sights.{core_values, event_values, pair_values, thread_values}
use Rattle.round_model.specs.After.{after_from, effect}
use Rattle.round_model.specs.Cores.{opening_state}
use Rattle.round_model.specs.Entries.{touches}
use Rattle.round_model.specs.Moves.{core_after_event, handed, handed_all, received, received_all, released}
use Rattle.round_model.specs.Rounds.{IsStill}
use Rattle.round_model.specs.Spread.{idle_count, spread}
use Rattle.round_model.specs.StillRounds.{spread_at}
use Rattle.round_model.specs.Stretches.{IsStillStretch}
use Rattle.round_model.specs.Work.{worked}
use Rattle.round_model.specs.declared.entry.Entry.{Entry}
use Rattle.round_model.specs.declared.entry.Entry.TheVariants as entry
use Rattle.sched_report.specs.FailRows.{AreFailRows, IsFailRow}
use Rattle.sched_report.specs.Reports.{totals_of}
use Rattle.sched_report.specs.Rests.{first_rest, gap_at_rest}
use Rattle.sched_report.specs.RoundRows.{bad_within, round_row, round_rows}
use Rattle.sched_report.specs.StillRows.{AreStillRows, IsStillRow}
use Rattle.model_tests.specs.Histories.{eight_threads_history, stale_read_history}
use Rattle.model_tests.specs.Plans.{eight_threads, stale_read}
use Rattle.model_tests.specs.Policies.{basic}
use Rattle.model_tests.proofs.RoundRows.{eight_threads_rounds, stale_read_explained}
use Rattle.row_tests.specs.Rows.{EightThreadsReported, StaleReadReported, eight_threads_report, later_rounds, stale_read_report}

stale_read_rounds : stale_read_report.rounds ≡ round_rows basic stale_read stale_read_history
unfolding round_row gap_at_rest idle_count spread touches effect after_from opening_state core_after_event handed handed_all received received_all released worked holding_cases outcomes_of task_after_set pair_values core_values thread_values event_values
stale_read_rounds = refl

eight_threads_rows : eight_threads_report.rounds ≡ round_rows basic eight_threads eight_threads_history
unfolding round_row gap_at_rest idle_count spread touches effect after_from opening_state core_after_event handed handed_all received received_all released worked holding_cases outcomes_of task_after_set pair_values core_values thread_values event_values
eight_threads_rows = refl

stale_read_totals : stale_read_report.totals ≡ totals_of stale_read_history stale_read_report.rounds
unfolding totals_of
stale_read_totals = refl

eight_threads_totals : eight_threads_report.totals ≡ totals_of eight_threads_history eight_threads_report.rounds
unfolding totals_of
eight_threads_totals = refl

-- where the first round isn't still, a stretch begins behind it
pub behind_first : (h : List Entry) → ¬ IsStill h 1 1 → (first last : ℕ) → IsStillStretch h first last → 2 ≤ first
behind_first h stirred first last is = by_order (cases_lt 1 first)
  where
    by_order : (1 < first) ⊎ (first ≤ 1) → 2 ≤ first
    by_order (inl behind) = behind
    by_order (inr low) =
        let positive = is.positive in let order = is.ordered in
        absurd (stirred (λ k e there from to. is.still k e there (omega arith) (omega arith)))

-- in the round of the stale read threads enter
stale_read_stirred : ¬ IsStill stale_read_history 1 1
stale_read_stirred still = absurd (let quiet = still 1 (entry.Enter 1 0 0 []) refl (omega arith) (omega arith) in cc)

stale_read_stills : AreStillRows basic stale_read stale_read_history []
stale_read_stills = record {
  each = λ k d inside. absurd (omega arith);
  all = λ first last is.
      let behind = behind_first stale_read_history stale_read_stirred first last is.still in
      let begun : last ≤ 1 = is.still.begun in
      let order = is.still.ordered in
      absurd (omega arith);
  ordered = λ k inside. absurd (omega arith);
}

stale_read_fails : AreFailRows basic stale_read stale_read_history stale_read_report.fails
stale_read_fails = record { positions = refl; each = each }
  where
    each : All (IsFailRow basic stale_read stale_read_history) stale_read_report.fails
    each zero d inside = record {
      explains = stale_read_explained.by_the_steal;
      first = λ cause explains. let is = stale_read_explained.only cause explains in omega arith;
    }
    each (suc k) d inside = absurd (omega arith)

pub stale_read_reported : StaleReadReported
stale_read_reported = record {
  rounds = stale_read_rounds;
  stills = stale_read_stills;
  fails = stale_read_fails;
  totals = stale_read_totals ∙ ap (totals_of stale_read_history) stale_read_rounds;
}

-- the one row of the eight threads
later_spread : later_rounds.spread ≡ spread_at basic eight_threads eight_threads_history 17
unfolding spread touches effect after_from opening_state core_after_event handed handed_all received received_all released worked holding_cases outcomes_of task_after_set pair_values core_values thread_values event_values
later_spread = refl

later_row : IsStillRow basic eight_threads eight_threads_history later_rounds
later_row = record {
  longest = record {
    still = eight_threads_rounds.later_are_still;
    alone = λ from to is low high.
        let behind = behind_first eight_threads_history eight_threads_rounds.first_is_not from to is in
        let begun : to ≤ 4 = is.begun in
        (omega arith, omega arith);
  };
  opening = 17;
  begins = refl;
  spread = later_spread;
  bad = ap (λ rows. bad_within rows 2 4) eight_threads_rows;
  rest = ap (λ rows. first_rest rows 2 4) eight_threads_rows;
}

eight_threads_stills : AreStillRows basic eight_threads eight_threads_history (later_rounds ∷ [])
eight_threads_stills = record {
  each = each;
  all = λ first last is.
      let behind = behind_first eight_threads_history eight_threads_rounds.first_is_not first last is.still in
      let begun : last ≤ 4 = is.still.begun in
      let same = is.alone 2 4 eight_threads_rounds.later_are_still behind begun in
      record { row = later_rounds; among = (0, omega arith, refl); first_is = same.0; last_is = same.1 };
  ordered = λ k inside. absurd (omega arith);
}
  where
    each : All (IsStillRow basic eight_threads eight_threads_history) (later_rounds ∷ [])
    each zero d inside = later_row
    each (suc k) d inside = absurd (omega arith)

pub eight_threads_reported : EightThreadsReported
eight_threads_reported = record {
  rounds = eight_threads_rows;
  stills = eight_threads_stills;
  fails = record { positions = refl; each = λ k d inside. absurd (omega arith) };
  totals = eight_threads_totals ∙ ap (totals_of eight_threads_history) eight_threads_rows;
}
