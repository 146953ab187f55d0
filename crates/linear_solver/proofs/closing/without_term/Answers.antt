use Rattle.std.proofs.Common.{◌<◌, arith}
use Rattle.linear_solver.specs.Elimination.{numbered_count}
use Rattle.linear_solver.proofs.SumRows.{first_is_sum, kept_is_sum}
use Rattle.linear_solver.proofs.closing.without_term.Goals as goal

pub returns-in-Kept : goal.returns-in-Kept
returns-in-Kept c =
    let bounds = c.args.bounds.now in
    let rows = c.args.rows.now in
    let numbered : c.closing_row-number.result < numbered_count bounds rows = omega (arith, c.closing_row-number.ensures) in
    let range_row = first_is_sum bounds rows c.requires.system c.closing_row-number.result c.in_ok-range_row.range_row numbered c.in_ok-range_row.ensures.row in
    let kept = rw c.in-Kept.is at c.in_ok-next.ensures in
    kept_is_sum bounds rows 1 _ c.args.sum c.in_ok-range_row.range_row c.in-Kept.next c.requires.sum range_row kept.1 kept.2
