use Rattle.std.proofs.Common.{arith, ap, length}
use Rattle.linear_form.proofs.Sizes.{terms_few}
use Rattle.linear_solver.proofs.rows_at.excess.Goals as goal

pub left_side-requires-clause-few : goal.left_side-requires-clause-few
left_side-requires-clause-few c =
    omega (arith, terms_few _ _ c.requires.row, ap length c.as_slice.ensures.items)
