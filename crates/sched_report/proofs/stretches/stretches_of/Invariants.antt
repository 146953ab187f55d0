-- The rows are those of the runs among the rounds so far.
use Rattle.sched_report.specs.Code.Runs.{AreRunsSoFar}
use Rattle.sched_report.proofs.stretches.stretches_of.Given as goal

abbrev pub invariant-loop-at : goal.invariant-loop-at
invariant-loop-at l = AreRunsSoFar l.still l.rounds l.at l.done l.current
