-- The counts are those of the entries passed over.
use Rattle.sched_report.specs.Code.Steals.{AreStealsSoFar}
use Rattle.sched_report.proofs.steals.steals_of_rounds.Given as goal

abbrev pub invariant-loop-entry : goal.invariant-loop-entry
invariant-loop-entry l = AreStealsSoFar l.history l.entry-index l.counts
