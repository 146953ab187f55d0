-- The point so far solves the system, and is no farther from 0 than the first one.
use Rattle.policy_checker.specs.Smaller.{IsSmaller}
use Rattle.policy_checker.proofs.smaller.with_run.Given as goal

abbrev pub invariant-loop-digit : goal.invariant-loop-digit
invariant-loop-digit l = IsSmaller l.system l.fn.point.vals l.smaller.vals
