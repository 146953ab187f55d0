use Rattle.std.proofs.Common.{arith}
use Rattle.linear_solver.proofs.Joining.{wide_height}
use Rattle.linear_solver.proofs.searching.cut_in_halves.Goals as goal

pub returns-then-room-eq0-clause-decides : goal.returns-then-room-eq0-clause-decides
returns-then-room-eq0-clause-decides c = λ low.
    omega (arith, wide_height c.args.bounds.now c.widest_in-wide.result c.widest_in-wide.ensures)
