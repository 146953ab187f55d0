-- What the definitions of the report give, as laws over all policies, plans and histories.
use Rattle.std.specs.Prelude.{◌≡◌, ℕ, List, All, Contains, IsTrue, ◌↔◌}
use Rattle.policy_tree.specs.Meaning.{Meaning}
use Rattle.policy_eval.specs.Obligations.{MeetsObligations}
use Rattle.round_model.specs.declared.entry.Entry.{Entry}
use Rattle.round_model.specs.declared.plan.Plan.{Plan}
use Rattle.round_model.specs.Cores.{Cores}
use Rattle.round_model.specs.Fits.{Fits}
use Rattle.round_model.specs.Legal.{Legal, Whole}
use Rattle.round_model.specs.Rounds.{IsBad}
use Rattle.round_model.specs.Spread.{Beside}
use Rattle.sched_report.specs.CauseRows.{AreCauseRows, HasCause}
use Rattle.sched_report.specs.Reports.{IsReport}
use Rattle.sched_report.specs.RoundRows.{is_bad, round_row, round_rows}
use Rattle.sched_report.specs.Wastes.{IsWaste, SaysTheSame}
use Rattle.sched_report.specs.declared.rows.CauseRow.{CauseRow}
use Rattle.sched_report.specs.declared.rows.FullReport.{FullReport}
use Rattle.sched_report.specs.declared.rows.RoundRow.{RoundRow}
use Rattle.sched_report.specs.declared.rows.WasteReport.{WasteReport}

-- the row of a round is bad exactly where some core is idle beside an overloaded one as the round opens
abbrev pub BadRowsLaw : Type 0
BadRowsLaw = (p : Meaning) (plan : Plan) (m : Cores) (number : ℕ) → IsTrue (is_bad (round_row p plan number m))
    ↔ Beside plan m

-- of a whole history it is so exactly where the round is bad
abbrev pub BadRoundsLaw : Type 0
BadRoundsLaw = (p : Meaning) (plan : Plan) (history : List Entry) (row : RoundRow) → Whole p plan history
    → Contains (round_rows p plan history) row → IsTrue (is_bad row) ↔ IsBad p plan history row.number

-- a legal history has no two reports
abbrev pub OneReportLaw : Type 0
OneReportLaw = (p : Meaning) (plan : Plan) (history : List Entry) (one other : FullReport) → Legal p plan history
    → IsReport p plan history one → IsReport p plan history other → one ≡ other

-- what a report that tells of waste comes to
pub record WasteLaw : Type 0 where
  -- where a policy meets its obligations, each Fail has an explanation
  pub explained : (p : Meaning) (plan : Plan) (history : List Entry) (rows : List CauseRow) → Fits p plan
      → MeetsObligations p → Legal p plan history → AreCauseRows p plan history rows → All HasCause rows
  -- what has a report is told the same by both kinds
  pub same : (p : Meaning) (plan : Plan) (history : List Entry) (report : FullReport) (waste : WasteReport)
      → Legal p plan history → IsReport p plan history report → IsWaste p plan history waste
      → SaysTheSame report waste
  -- there is no second one
  pub one : (p : Meaning) (plan : Plan) (history : List Entry) (one other : WasteReport) → Legal p plan history
      → IsWaste p plan history one → IsWaste p plan history other → one ≡ other
