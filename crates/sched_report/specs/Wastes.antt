-- The report on a history of a policy that may waste cores.
use Rattle.std.specs.Prelude.{◌≡◌, List, map}
use Rattle.policy_tree.specs.Meaning.{Meaning}
use Rattle.round_model.specs.declared.entry.Entry.{Entry}
use Rattle.round_model.specs.declared.plan.Plan.{Plan}
use Rattle.sched_report.specs.CauseRows.{AreCauseRows, with_cause}
use Rattle.sched_report.specs.Reports.{totals_of}
use Rattle.sched_report.specs.RoundRows.{round_rows}
use Rattle.sched_report.specs.StretchRows.{AreStretchRows, still_of}
use Rattle.sched_report.specs.declared.rows.FullReport.{FullReport}
use Rattle.sched_report.specs.declared.rows.WasteReport.{WasteReport}

-- each row and each total is as the history says
pub record IsWaste (p : Meaning) (plan : Plan) (history : List Entry) (waste : WasteReport) : Type 0 where
  pub rounds : waste.rounds ≡ round_rows p plan history
  pub stretches : AreStretchRows p plan history waste.stretches
  pub causes : AreCauseRows p plan history waste.causes
  pub totals : waste.totals ≡ totals_of history (round_rows p plan history)

-- it says the same as the report, and of each stretch how many steals it has
pub record SaysTheSame (report : FullReport) (waste : WasteReport) : Type 0 where
  pub rounds : waste.rounds ≡ report.rounds
  pub stretches : map still_of waste.stretches ≡ report.stills
  pub causes : waste.causes ≡ map with_cause report.fails
  pub totals : waste.totals ≡ report.totals
