-- The report on a history.
use Rattle.std.specs.Prelude.{◌≡◌, ◌*◌, ◌≤◌, List, All, count_by, length, sum_by}
use Rattle.policy_tree.specs.Meaning.{Meaning}
use Rattle.round_model.specs.declared.entry.Entry.{Entry}
use Rattle.round_model.specs.declared.plan.Plan.{Plan}
use Rattle.round_model.specs.Kinds.{is_fail, is_steal}
use Rattle.round_model.specs.Legal.{rounds_begun}
use Rattle.sched_report.specs.FailRows.{AreFailRows}
use Rattle.sched_report.specs.RoundRows.{is_bad, round_rows}
use Rattle.sched_report.specs.StillRows.{AreStillRows}
use Rattle.sched_report.specs.declared.rows.FullReport.{FullReport}
use Rattle.sched_report.specs.declared.rows.RoundRow.{RoundRow}
use Rattle.sched_report.specs.declared.rows.StillRow.{StillRow}
use Rattle.sched_report.specs.declared.rows.Totals.{Totals}

-- the totals of a history with those rounds
unfoldable pub totals_of : List Entry → List RoundRow → Totals
totals_of history rounds = record {
  rounds = rounds_begun history;
  entries = length history;
  steals = count_by is_steal history;
  fails = count_by is_fail history;
  bad = count_by is_bad rounds;
  wasted = sum_by (λ (row : RoundRow). row.idle) rounds;
}

-- each row and each total is as the history says
pub record IsReport (p : Meaning) (plan : Plan) (history : List Entry) (report : FullReport) : Type 0 where
  pub rounds : report.rounds ≡ round_rows p plan history
  pub stills : AreStillRows p plan history report.stills
  pub fails : AreFailRows p plan history report.fails
  pub totals : report.totals ≡ totals_of history (round_rows p plan history)

-- half the spread of each stretch pays for its bad rounds
abbrev pub IsPaid : FullReport → Type 0
IsPaid report = All (λ (row : StillRow). 2 * row.bad ≤ row.spread) report.stills

-- the totals are those of the rows
pub record AddsUp (report : FullReport) : Type 0 where
  pub rounds : report.totals.rounds ≡ length report.rounds
  pub fails : report.totals.fails ≡ length report.fails
  pub bad : report.totals.bad ≡ count_by is_bad report.rounds
  pub wasted : report.totals.wasted ≡ sum_by (λ (row : RoundRow). row.idle) report.rounds
