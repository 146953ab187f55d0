-- The first fault of a sign or of a factor is that of the term.
use Rattle.std.proofs.Common.{arith}
use Rattle.std.proofs.lemmas.Result.{err_from_is_err_and}
use Rattle.policy_tree.specs.Trees.{expr_tree}
use Rattle.policy_types.specs.Expressions.{factor_meaning, term_faults}
use Rattle.policy_types.proofs.TermsRead.{factor_second, sign_first}
use Rattle.policy_types.proofs.scope.Scope.term.Goals as goal

pub returns-in_err-product-clause-fault : goal.returns-in_err-product-clause-fault
returns-in_err-product-clause-fault c =
    let p = err_from_is_err_and c.from_residual-in_err-product.result c.from_residual-in_err-product.ensures.1 in
    let loop = c.loop-times in let left = expr_tree loop.left in let right = factor_meaning c.args.self.now c.times-item.result.factor in
    rw (p.1, p.2)
    (sign_first c.args.self.now c.args.site left c.as_slice-rest.result.now loop.times-index c.times-item.result (omega arith) c.times-item.is
    (term_faults c.args.self.now c.args.site c.args.term.now) c.in_err-product.field-0.0 loop.invariant.faults
    (c.in_err-product.ensures.fault left right loop.invariant.is c.factor_product.ensures.is))

pub returns-in_err-right-clause-fault : goal.returns-in_err-right-clause-fault
returns-in_err-right-clause-fault c =
    let p = err_from_is_err_and c.from_residual-in_err-right.result c.from_residual-in_err-right.ensures.1 in
    let loop = c.loop-times in let left = expr_tree loop.left in let right = factor_meaning c.args.self.now c.times-item.result.factor in
    rw (p.1, p.2)
    (factor_second c.args.self.now c.args.site left c.as_slice-rest.result.now loop.times-index c.times-item.result (omega arith) c.times-item.is
    (term_faults c.args.self.now c.args.site c.args.term.now) c.in_err-right.field-0.0 loop.invariant.faults
    (c.in_ok-product.ensures.sound left right loop.invariant.is c.factor_product.ensures.is)
    c.in_err-right.ensures.fault)
