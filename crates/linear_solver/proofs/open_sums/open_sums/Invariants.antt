use Rattle.std.proofs.Common.{All}
use Rattle.linear_solver.specs.Follows.{IsSumRow}
use Rattle.linear_solver.proofs.open_sums.open_sums.Given as goal

abbrev pub invariant-loop-p : goal.invariant-loop-p
invariant-loop-p l = All (IsSumRow l.stage.bounds.now l.stage.rows.now) l.sums.items
