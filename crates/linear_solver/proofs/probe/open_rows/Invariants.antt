use Rattle.std.proofs.Common.{All}
use Rattle.linear_solver.specs.Follows.{IsSumRow}
use Rattle.linear_solver.proofs.probe.open_rows.Given as goal

abbrev pub invariant-loop-number : goal.invariant-loop-number
invariant-loop-number l = All (IsSumRow l.bounds l.rows) l.list.items
