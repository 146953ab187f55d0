-- The steals so far are those of the rounds passed over.
use Rattle.std.proofs.Common.{◌≡◌, List}
use Rattle.round_model.specs.declared.entry.Entry.{Entry}
use Rattle.round_model.specs.Stretches.{IsStillStretch}
use Rattle.sched_report.specs.Code.Steals.{AreSteals}
use Rattle.sched_report.specs.StretchRows.{steals_within}
use Rattle.sched_report.proofs.steals.steals_in.Given as goal

abbrev pub invariant-loop-before : goal.invariant-loop-before
invariant-loop-before l = (history : List Entry) → AreSteals history l.counts → IsStillStretch history l.still.first l.still.last
    → l.steals ≡ steals_within history l.still.first l.before
