-- The reports on two of the worked histories.
use Rattle.std.specs.Prelude.{ℕ, [], ◌∷◌, Option, None, Some}
use Rattle.sched_report.specs.declared.rows.FullReport.{FullReport}
use Rattle.sched_report.specs.declared.rows.RoundRow.{RoundRow}
use Rattle.sched_report.specs.declared.rows.StillRow.{StillRow}
use Rattle.sched_report.specs.Reports.{IsReport}
use Rattle.model_tests.specs.Histories.{eight_threads_history, stale_read_history}
use Rattle.model_tests.specs.Plans.{eight_threads, stale_read}
use Rattle.model_tests.specs.Policies.{basic}

-- the last is the gap between the loads, where the cores are at rest
abbrev pub opens : (number spread idle : ℕ) → Option ℕ → RoundRow
opens number spread idle rest = record { number = number; spread = spread; idle = idle; rest = rest }

-- three cores, two of which look at the first before either takes a thread of it
abbrev pub stale_read_report : FullReport
stale_read_report = record {
  rounds = opens 1 0 0 (Some 0) ∷ [];
  stills = [];
  fails = record { at = 8; by = 7 } ∷ [];
  totals = record { rounds = 1; entries = 9; steals = 1; fails = 1; bad = 0; wasted = 0 };
}

-- the stretch of the eight threads: from round 4 on no core may steal
abbrev pub later_rounds : StillRow
later_rounds = record { first = 2; last = 4; spread = 24; bad = 1; rest = Some (record { round = 4; gap = 0 }) }

-- eight threads on the first of four cores
abbrev pub eight_threads_report : FullReport
eight_threads_report = record {
  rounds = opens 1 0 0 (Some 0) ∷ opens 2 24 3 None ∷ opens 3 12 0 None ∷ opens 4 0 0 (Some 0) ∷ [];
  stills = later_rounds ∷ [];
  fails = [];
  totals = record { rounds = 4; entries = 44; steals = 6; fails = 0; bad = 1; wasted = 3 };
}

abbrev pub StaleReadReported : Type 0
StaleReadReported = IsReport basic stale_read stale_read_history stale_read_report

abbrev pub EightThreadsReported : Type 0
EightThreadsReported = IsReport basic eight_threads eight_threads_history eight_threads_report
