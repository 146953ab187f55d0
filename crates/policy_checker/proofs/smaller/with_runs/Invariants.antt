-- The point so far solves the system, and is no farther from 0 than the first one.
use Rattle.policy_checker.specs.Smaller.{IsSmaller}
use Rattle.policy_checker.proofs.smaller.with_runs.Given as goal

abbrev pub invariant-loop-last : goal.invariant-loop-last
invariant-loop-last l = IsSmaller l.system l.fn.point.vals l.smaller.vals
