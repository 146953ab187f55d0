use Rattle.cert_file.proofs.CutLines.{cut_all, cut_more, cut_none, cut_short}
use Rattle.cert_file.proofs.fronts.front_of.Goals as goal
use Rattle.std.proofs.Common.{arith}

pub loop-missing-init : goal.loop-missing-init
loop-missing-init c = cut_none c.args.text.now c.args.lines

pub loop-missing-preserved : goal.loop-missing-preserved
loop-missing-preserved c = cut_more _ _ _ _ _ _ c.loop-missing.invariant c.in-Some.ensures c.loop-missing-test.true

pub returns-in-None : goal.returns-in-None
returns-in-None c = cut_short _ _ _ _ _ _ c.loop-missing.invariant c.in-None.ensures c.loop-missing-test.true c.split_at.ensures.front c.split_at.ensures.back

pub returns : goal.returns
returns c = cut_all _ _ _ _ _ _ c.loop-missing.invariant (omega (arith, c.loop-missing-test.false)) c.split_at-2.ensures.front c.split_at-2.ensures.back
