-- The greatest of the loads so far.
use Rattle.std.proofs.Common.{◌≡◌, take}
use Rattle.sched_report.specs.Rests.{greatest}
use Rattle.sched_report.proofs.resting.greatest.Given as goal

abbrev pub invariant-loop-load : goal.invariant-loop-load
invariant-loop-load l = l.top ≡ greatest (take l.load-index l.loads)
