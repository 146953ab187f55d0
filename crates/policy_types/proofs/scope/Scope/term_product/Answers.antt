-- A product of two references has no linear form, whatever comes behind it.
use Rattle.std.proofs.Common.{arith}
use Rattle.policy_types.specs.Expressions.{factor_meaning}
use Rattle.policy_types.proofs.TermsRead.{refer_unformed}
use Rattle.policy_types.proofs.scope.Scope.term_product.Goals as goal

pub returns-in_err-product-clause-is : goal.returns-in_err-product-clause-is
returns-in_err-product-clause-is c =
    let left = c.loop-times.invariant.left in let right = factor_meaning c.args.self.now c.times-item.result.factor in
    rw c.from_residual.ensures
    (refer_unformed c.args.self.now c.args.term.now left c.as_slice-rest.result.now c.loop-times.times-index c.times-item.result (omega arith) c.times-item.is c.loop-times.invariant.same
    (c.in_err-product.ensures.is left right c.loop-times.invariant.is c.factor_product.ensures.is))
