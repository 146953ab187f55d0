use Rattle.std.proofs.Common.{All}
use Rattle.linear_solver.specs.Follows.{IsSumRow}
use Rattle.linear_solver.proofs.probe.reduce.Given as goal

abbrev pub invariant-loop-variable : goal.invariant-loop-variable
invariant-loop-variable l = All (IsSumRow l.bounds l.rows) l.list.items
