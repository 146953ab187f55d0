use Rattle.std.proofs.Common.{refl, subst, sym}
use Rattle.linear_cert.specs.Right.{IsRightLeaf}
use Rattle.linear_solver.proofs.RowLeaves.{row_leaf_right}
use Rattle.linear_solver.proofs.parts.closed.Goals as goal

pub returns-then-is_refuted : goal.returns-then-is_refuted
returns-then-is_refuted c = λ whole.
    let refuted = rw c.index-rows-number.is at (c.if-is_refuted.ensures.0 refl) in
    subst (IsRightLeaf c.args.part.now c.args.rows.now) (sym (c.in_ok-row_leaf.ensures c.index-rows-number.result)) (row_leaf_right c.args.part.now c.args.rows.now c.requires c.args.row c.index-rows-number.result c.if-number-rows.true refuted)
