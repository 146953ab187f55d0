use Rattle.linear_solver.specs.Elimination.{sum_of}
use Rattle.linear_solver.proofs.KeptSums.{large_is_kept}
use Rattle.linear_solver.proofs.derived.sum_of.Goals as goal

pub returns-in-None : goal.returns-in-None
returns-in-None c =
    let large = rw (c.in-None.is, c.as_slice.ensures.items, c.as_slice-2.ensures.items) at c.in_ok-coefs.ensures in
    large_is_kept (sum_of c.args.x c.args.y c.args.p.now c.args.q.now) large
