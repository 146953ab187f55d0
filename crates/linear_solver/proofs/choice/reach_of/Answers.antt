use Rattle.std.proofs.Common.{arith, ap, length}
use Rattle.linear_form.proofs.Sizes.{terms_few}
use Rattle.linear_solver.proofs.choice.reach_of.Goals as goal

pub ends_of-low-requires-clause-few : goal.ends_of-low-requires-clause-few
ends_of-low-requires-clause-few c =
    omega (arith, terms_few _ _ c.requires.row, ap length c.as_slice.ensures.items)
