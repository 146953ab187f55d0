-- So far at most 63.
use Rattle.std.proofs.Common.{◌≤◌}
use Rattle.policy_checker.proofs.smaller.digits_of.Given as goal

abbrev pub invariant-loop-value : goal.invariant-loop-value
invariant-loop-value l = l.digits ≤ 63
