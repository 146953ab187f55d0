use Rattle.linear_solver.proofs.SumRows.{kept_is_sum}
use Rattle.linear_solver.proofs.open_sums.open_sum.Goals as goal

pub with_open-requires-clause-sum : goal.with_open-requires-clause-sum
with_open-requires-clause-sum c =
    let kept = rw c.in-Kept.is at c.in_ok-combine.ensures in
    kept_is_sum c.args.stage.now.bounds.now c.args.stage.now.rows.now _ _ c.args.p.now c.args.q.now c.in-Kept.sum c.requires.p c.requires.q kept.1 kept.2
