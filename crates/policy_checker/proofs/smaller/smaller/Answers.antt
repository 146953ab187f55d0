-- From step to step no value gets farther from 0.
use Rattle.policy_checker.proofs.Nearer.{begins, goes_on}
use Rattle.policy_checker.proofs.smaller.smaller.Goals as goal

pub loop-first-init : goal.loop-first-init
loop-first-init c = begins c.requires

pub loop-first-preserved : goal.loop-first-preserved
loop-first-preserved c = goes_on c.loop-first.invariant c.in_ok-smaller.ensures
