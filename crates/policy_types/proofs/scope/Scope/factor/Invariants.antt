-- The expression so far is the operand with the signs so far.
use Rattle.std.proofs.Common.{◌≡◌}
use Rattle.policy_tree.specs.Trees.{expr_tree}
use Rattle.policy_types.specs.Expressions.{operand_meaning, signed}
use Rattle.policy_types.proofs.scope.Scope.factor.Given as goal

abbrev pub invariant-loop-sign : goal.invariant-loop-sign
invariant-loop-sign l = expr_tree l.expr ≡ signed l._sign (operand_meaning l.self l.factor.operand)
