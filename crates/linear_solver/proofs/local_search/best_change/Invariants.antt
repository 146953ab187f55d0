use Rattle.std.proofs.Common.{IfSome}
use Rattle.linear_solver.specs.LocalSearch.{IsChange}
use Rattle.linear_solver.proofs.local_search.best_change.Given as goal

abbrev pub invariant-loop-term : goal.invariant-loop-term
invariant-loop-term l = IfSome l.best (IsChange l.moves.bounds.now)
