-- The product so far is that of the operand with the signs so far.
use Rattle.policy_types.specs.Expressions.{operand_meaning, signed}
use Rattle.policy_types.specs.Products.{IsKnown, IsProduct}
use Rattle.policy_types.proofs.scope.Scope.factor_product.Given as goal

abbrev pub invariant-loop-sign : goal.invariant-loop-sign
invariant-loop-sign l = record {
  is : IsProduct l.product (signed l._sign (operand_meaning l.self l.factor.operand));
  known : IsKnown l.product.variable;
}
