use Rattle.linear_solver.specs.Follows.{IsSumRow}
use Rattle.linear_solver.proofs.closing.shut_leaf.Given as goal

abbrev pub invariant-loop-variable : goal.invariant-loop-variable
invariant-loop-variable l = IsSumRow l.bounds l.rows l.sum
