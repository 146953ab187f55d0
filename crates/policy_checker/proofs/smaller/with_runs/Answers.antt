-- From step to step no value gets farther from 0.
use Rattle.policy_checker.proofs.Nearer.{begins, goes_on}
use Rattle.policy_checker.proofs.smaller.with_runs.Goals as goal

pub loop-last-init : goal.loop-last-init
loop-last-init c = begins c.requires

pub loop-last-preserved : goal.loop-last-preserved
loop-last-preserved c = goes_on c.loop-last.invariant c.in_ok-smaller.ensures
