use Rattle.std.proofs.Common.{◌≡◌, pos}
use Rattle.linear_solver.specs.LocalSearch.{failure}
use Rattle.linear_solver.proofs.rows_at.failure.Given as goal

abbrev pub invariant-loop-state : goal.invariant-loop-state
invariant-loop-state l = failure l.by (pos 0) l.states l.column ≡ failure l.by l.sum l.state-iterator.a.rest.now l.state-iterator.b.rest.now
