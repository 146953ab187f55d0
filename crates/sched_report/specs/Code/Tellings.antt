-- What is told of a history for both kinds of report.
use Rattle.std.specs.Prelude.{◌≡◌, List}
use Rattle.policy_tree.specs.Meaning.{Meaning}
use Rattle.round_model.specs.declared.entry.Entry.{Entry}
use Rattle.round_model.specs.declared.plan.Plan.{Plan}
use Rattle.sched_report.specs.CauseRows.{AreCauseRows}
use Rattle.sched_report.specs.Reports.{totals_of}
use Rattle.sched_report.specs.RoundRows.{round_rows}
use Rattle.sched_report.specs.StillRows.{AreStillRows}
use Rattle.sched_report.specs.declared.telling.Told.{Told}

-- each row and each total is as the history says
pub record IsTold (p : Meaning) (plan : Plan) (history : List Entry) (told : Told) : Type 0 where
  pub rounds : told.rounds ≡ round_rows p plan history
  pub stills : AreStillRows p plan history told.stills
  pub causes : AreCauseRows p plan history told.causes
  pub totals : told.totals ≡ totals_of history (round_rows p plan history)
