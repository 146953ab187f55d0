use Rattle.std.proofs.Common.{take, All}
use Rattle.linear_form.specs.Difference.{IsDifferenceRow}
use Rattle.linear_form.proofs.shape.are_differences.Given as goal

abbrev pub invariant-loop-row : goal.invariant-loop-row
invariant-loop-row l = All IsDifferenceRow (take l.row-index l.rows)
