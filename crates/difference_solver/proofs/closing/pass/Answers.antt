use Rattle.std.proofs.Common.{arith}
use Rattle.difference_solver.proofs.Steps.{kept_small}
use Rattle.difference_solver.proofs.Loops.{one_from, rows_to, rows_from}
use Rattle.difference_solver.proofs.closing.pass.Goals as goal

pub pass_from-requires-clause-small : goal.pass_from-requires-clause-small
pass_from-requires-clause-small c =
    let now = c.loop-from.invariant in
    kept_small c.args.middle c.args.distances.now _ now.size c.requires.small
    (rows_to c.args.middle c.loop-from.from _ _ now c.requires.middle)
    (rows_from c.args.middle c.loop-from.from _ _ now c.requires.middle)

pub loop-from-preserved : goal.loop-from-preserved
loop-from-preserved c =
    one_from c.args.middle c.loop-from.from _ _ c.loop-from.invariant c.requires.middle _ (omega (arith, c.size-from-end.ensures.size)) c.in_ok-pass_from.ensures
