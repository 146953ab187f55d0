use Rattle.std.proofs.Common.{All}
use Rattle.linear_solver.specs.Follows.{IsSumRow}
use Rattle.linear_solver.proofs.open_sums.open_sums_with.Given as goal

abbrev pub invariant-loop-q : goal.invariant-loop-q
invariant-loop-q l = All (IsSumRow l.stage.bounds.now l.stage.rows.now) l.sums.items
