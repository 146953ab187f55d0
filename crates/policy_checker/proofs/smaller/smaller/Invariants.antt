-- The point so far solves the system, and is no farther from 0 than the first one.
use Rattle.policy_checker.specs.Smaller.{IsSmaller}
use Rattle.policy_checker.proofs.smaller.smaller.Given as goal

abbrev pub invariant-loop-first : goal.invariant-loop-first
invariant-loop-first l = IsSmaller l.system l.fn.point.vals l.smaller.vals
