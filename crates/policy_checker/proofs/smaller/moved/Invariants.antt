-- The values so far are no farther from 0.
use Rattle.std.proofs.Common.{take}
use Rattle.policy_checker.specs.Smaller.{AreNearer}
use Rattle.policy_checker.proofs.smaller.moved.Given as goal

abbrev pub invariant-loop-at : goal.invariant-loop-at
invariant-loop-at l = AreNearer l.vals.items (take l.at l.point.vals)
