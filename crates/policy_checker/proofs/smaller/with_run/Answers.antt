-- From step to step no value gets farther from 0.
use Rattle.policy_checker.proofs.Nearer.{begins, goes_on}
use Rattle.policy_checker.proofs.smaller.with_run.Goals as goal

pub loop-digit-init : goal.loop-digit-init
loop-digit-init c = begins c.requires

pub loop-digit-preserved : goal.loop-digit-preserved
loop-digit-preserved c = goes_on c.loop-digit.invariant c.better-smaller.ensures
