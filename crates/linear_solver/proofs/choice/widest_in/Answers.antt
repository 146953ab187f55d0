use Rattle.linear_solver.proofs.Spreads.{fixed_is_not_open}
use Rattle.linear_solver.proofs.choice.widest_in.Goals as goal

pub unreachable-requires : goal.unreachable-requires
unreachable-requires c =
    fixed_is_not_open c.args.bounds.now c.requires.bounds c.args.row.now c.requires.row (rw c.as_slice.ensures.items at c.in-None.ensures) c.requires.open
