use Rattle.std.proofs.Common.{arith, ap, length}
use Rattle.linear_form.proofs.Sizes.{terms_few}
use Rattle.linear_solver.proofs.ends.is_implied.Goals as goal

pub greatest-requires-clause-few : goal.greatest-requires-clause-few
greatest-requires-clause-few c =
    omega (arith, terms_few _ _ c.requires.row, ap length c.as_slice.ensures.items)
