use Rattle.std.proofs.Common.{List, All, vec_len}
use Rattle.linear_form.specs.declared.form.Bound.{Bound}
use Rattle.linear_form.specs.declared.form.Row.{Row}
use Rattle.linear_solver.specs.Follows.{IsSumRow}
use Rattle.linear_solver.proofs.probe.parted.Given as goal

abbrev pub invariant-loop-row : goal.invariant-loop-row
invariant-loop-row l = (bounds : List Bound) (rows : List Row) → All (IsSumRow bounds rows) l.fn.list.items → All (IsSumRow bounds rows) l.fn.sums.items → All (IsSumRow bounds rows) l.list.items × All (IsSumRow bounds rows) l.next.items

abbrev pub decreases-loop-row : goal.decreases-loop-row
decreases-loop-row l = vec_len l.list
