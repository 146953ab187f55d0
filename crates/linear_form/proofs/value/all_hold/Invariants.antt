use Rattle.std.proofs.Common.{take, All}
use Rattle.linear_form.specs.Solution.{RowHolds}
use Rattle.linear_form.proofs.value.all_hold.Given as goal

abbrev pub invariant-loop-row : goal.invariant-loop-row
invariant-loop-row l = All (RowHolds l.vals) (take l.row-index l.rows)
