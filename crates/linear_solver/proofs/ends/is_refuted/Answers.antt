use Rattle.std.proofs.Common.{arith, ap, length}
use Rattle.linear_form.proofs.Sizes.{terms_few}
use Rattle.linear_solver.proofs.ends.is_refuted.Goals as goal

pub least-requires-clause-few : goal.least-requires-clause-few
least-requires-clause-few c =
    omega (arith, terms_few _ _ c.requires.row, ap length c.as_slice.ensures.items)
