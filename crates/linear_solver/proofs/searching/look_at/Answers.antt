use Rattle.std.proofs.Common.{pos, [], subst, sym}
use Rattle.linear_form.specs.declared.form.Row.{Row}
use Rattle.linear_form.specs.Solution.{Solves}
use Rattle.linear_cert.specs.Right.{IsRightLeaf}
use Rattle.linear_solver.proofs.Corners.{low_ends_solve}
use Rattle.linear_solver.proofs.RowLeaves.{row_leaf_right}
use Rattle.linear_solver.proofs.searching.look_at.Goals as goal

pub returns-in_ok-row_leaf-in-Refuted-clause-step : goal.returns-in_ok-row_leaf-in-Refuted-clause-step
returns-in_ok-row_leaf-in-Refuted-clause-step c =
    let bounds = c.args.bounds.now in
    let rows = c.args.rows.now in
    let none : Row = record { terms = []; bound = pos 0 } in
    let refuted = c.in-Refuted.ensures in
    (subst (IsRightLeaf bounds rows) (sym (c.in_ok-row_leaf-in-Refuted.ensures none)) (row_leaf_right bounds rows c.requires c.in-Refuted.row none refuted.0 (refuted.1 none)), tt)

pub returns-in_ok-low_ends-in-Implied-clause-step : goal.returns-in_ok-low_ends-in-Implied-clause-step
returns-in_ok-low_ends-in-Implied-clause-step c =
    let bounds = c.args.bounds.now in
    let rows = c.args.rows.now in
    subst (Solves bounds rows) (sym c.in_ok-low_ends-in-Implied.ensures) (low_ends_solve bounds rows c.requires c.in-Implied.ensures)
