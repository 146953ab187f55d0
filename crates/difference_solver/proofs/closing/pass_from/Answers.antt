use Rattle.std.proofs.Common.{arith}
use Rattle.difference_solver.proofs.Steps.{kept_small}
use Rattle.difference_solver.proofs.Loops.{one_to, still_to, still_from}
use Rattle.difference_solver.proofs.closing.pass_from.Goals as goal

pub pass_between-requires-clause-small : goal.pass_between-requires-clause-small
pass_between-requires-clause-small c =
    let now = c.loop-to.invariant in
    kept_small c.args.middle c.args.distances.now _ now.size c.requires.small
    (still_to c.args.middle c.args.from c.loop-to.to _ _ now c.requires.middle c.requires.from)
    (still_from c.args.middle c.args.from c.loop-to.to _ _ now c.requires.middle c.requires.from)

pub loop-to-preserved : goal.loop-to-preserved
loop-to-preserved c =
    one_to c.args.middle c.args.from c.loop-to.to _ _ c.loop-to.invariant c.requires.middle c.requires.from _ (omega (arith, c.size-to-end.ensures.size)) c.in_ok-pass_between.ensures
