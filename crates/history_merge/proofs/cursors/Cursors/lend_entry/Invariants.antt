use Rattle.history_merge.specs.Code.Moves.{lent}
use Rattle.history_merge.proofs.Walks.{IsWalked}
use Rattle.history_merge.proofs.cursors.Cursors.lend_entry.Given as goal

-- the entry is found if a round begins there, or one of the cores passed over is touched
abbrev pub invariant-loop-core : goal.invariant-loop-core
invariant-loop-core l = IsWalked l.closed l.at l.core l.self (lent l.found)
