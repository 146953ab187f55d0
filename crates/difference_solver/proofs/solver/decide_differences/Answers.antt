use Rattle.difference_solver.proofs.Start.{start_state, start_short}
use Rattle.difference_solver.proofs.Leaf.{right_leaf}
use Rattle.difference_solver.proofs.solver.decide_differences.Goals as goal

pub close-requires-clause-state : goal.close-requires-clause-state
close-requires-clause-state c =
    start_state c.args.system.now.bounds c.args.system.now.rows c.range_distances.ensures.system _ _ c.in_ok-distances.ensures.ranges c.in_ok-shorten_by_rows.ensures.shortens c.in_ok-shorten_by_rows.ensures.keeps

pub close-requires-clause-short : goal.close-requires-clause-short
close-requires-clause-short c =
    start_short c.args.system.now.bounds c.args.system.now.rows c.range_distances.ensures.system _ _ c.in_ok-distances.ensures.ranges c.in_ok-shorten_by_rows.ensures.shortens c.in_ok-shorten_by_rows.ensures.keeps

pub returns-in-Some-clause-decides : goal.returns-in-Some-clause-decides
returns-in-Some-clause-decides c =
    let answer = rw c.in-Some.is at c.in_ok-node.ensures.answer in
    rw c.into_mults.ensures (right_leaf c.args.system.now.bounds c.args.system.now.rows c.range_distances.ensures.system _ c.in_ok-node.ensures.state c.in-Some.node answer.0 answer.1)
