use Rattle.history_merge.proofs.Counts.{IsCounted}
use Rattle.history_merge.proofs.merging.entry_count.Given as goal

-- no log that was passed over goes on behind the count, and the history doesn't end before it
abbrev pub invariant-loop-core : goal.invariant-loop-core
invariant-loop-core l = IsCounted l.closed l.core l.count
