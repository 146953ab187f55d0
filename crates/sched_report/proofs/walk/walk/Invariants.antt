-- The past is that of the entries passed over, and the tally is theirs.
use Rattle.std.proofs.Common.{take}
use Rattle.policy_tree.specs.Meaning.{meaning_of}
use Rattle.round_judge.specs.Past.{IsPastOf, StandsFor}
use Rattle.sched_report.specs.Code.Walks.{IsTallySoFar}
use Rattle.sched_report.proofs.walk.walk.Given as goal

abbrev pub invariant-loop-entry : goal.invariant-loop-entry
invariant-loop-entry l = record {
  belongs : IsPastOf (meaning_of l.policy) l.plan l.past;
  stands : StandsFor (meaning_of l.policy) l.plan l.past (take l.entry-index l.history);
  tally : IsTallySoFar (meaning_of l.policy) l.plan l.history l.entry-index l.tally;
}
