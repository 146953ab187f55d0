use Rattle.std.proofs.Common.{ap, ◌∙◌}
use Rattle.policy_tree.specs.Trees.{expr_tree}
use Rattle.policy_eval.specs.Values.{value_of}
use Rattle.policy_eval.proofs.Operations.{plus_computes, minus_computes, times_computes, negation_computes}
use Rattle.policy_eval.proofs.evaluation.+value.Goals as goal

pub overflow_add-result : goal.overflow_add-result
overflow_add-result t c = (plus_computes c.args.env.now.vals c.requires.values _ _ _ (ap expr_tree c.in-Add.is) c.requires.evaluable.linear _ _
    (c.value-in-Add.ensures ∙ ap (λ e. value_of c.args.env.now.vals (expr_tree e)) c.deref-in-Add.ensures)
    (c.value-in-Add-2.ensures ∙ ap (λ e. value_of c.args.env.now.vals (expr_tree e)) c.deref-in-Add-2.ensures)).fits

pub returns-in-Add : goal.returns-in-Add
returns-in-Add t c = (plus_computes c.args.env.now.vals c.requires.values _ _ _ (ap expr_tree c.in-Add.is) c.requires.evaluable.linear _ _
    (c.value-in-Add.ensures ∙ ap (λ e. value_of c.args.env.now.vals (expr_tree e)) c.deref-in-Add.ensures)
    (c.value-in-Add-2.ensures ∙ ap (λ e. value_of c.args.env.now.vals (expr_tree e)) c.deref-in-Add-2.ensures)).gives

pub overflow_sub-result-in-Sub : goal.overflow_sub-result-in-Sub
overflow_sub-result-in-Sub t c = (minus_computes c.args.env.now.vals c.requires.values _ _ _ (ap expr_tree c.in-Sub.is) c.requires.evaluable.linear _ _
    (c.value-in-Sub.ensures ∙ ap (λ e. value_of c.args.env.now.vals (expr_tree e)) c.deref-in-Sub.ensures)
    (c.value-in-Sub-2.ensures ∙ ap (λ e. value_of c.args.env.now.vals (expr_tree e)) c.deref-in-Sub-2.ensures)).fits

pub returns-in-Sub : goal.returns-in-Sub
returns-in-Sub t c = (minus_computes c.args.env.now.vals c.requires.values _ _ _ (ap expr_tree c.in-Sub.is) c.requires.evaluable.linear _ _
    (c.value-in-Sub.ensures ∙ ap (λ e. value_of c.args.env.now.vals (expr_tree e)) c.deref-in-Sub.ensures)
    (c.value-in-Sub-2.ensures ∙ ap (λ e. value_of c.args.env.now.vals (expr_tree e)) c.deref-in-Sub-2.ensures)).gives

pub overflow_mul-result : goal.overflow_mul-result
overflow_mul-result t c = (times_computes c.args.env.now.vals c.requires.values _ _ _ (ap expr_tree c.in-Mul.is) c.requires.evaluable.linear _ _
    (c.value-in-Mul.ensures ∙ ap (λ e. value_of c.args.env.now.vals (expr_tree e)) c.deref-in-Mul.ensures)
    (c.value-in-Mul-2.ensures ∙ ap (λ e. value_of c.args.env.now.vals (expr_tree e)) c.deref-in-Mul-2.ensures)).fits

pub returns-in-Mul : goal.returns-in-Mul
returns-in-Mul t c = (times_computes c.args.env.now.vals c.requires.values _ _ _ (ap expr_tree c.in-Mul.is) c.requires.evaluable.linear _ _
    (c.value-in-Mul.ensures ∙ ap (λ e. value_of c.args.env.now.vals (expr_tree e)) c.deref-in-Mul.ensures)
    (c.value-in-Mul-2.ensures ∙ ap (λ e. value_of c.args.env.now.vals (expr_tree e)) c.deref-in-Mul-2.ensures)).gives

pub overflow_sub-result : goal.overflow_sub-result
overflow_sub-result t c = (negation_computes c.args.env.now.vals c.requires.values _ _ (ap expr_tree c.in-Neg.is) c.requires.evaluable.linear _
    (c.value.ensures ∙ ap (λ e. value_of c.args.env.now.vals (expr_tree e)) c.deref.ensures)).fits

pub returns-in-Neg : goal.returns-in-Neg
returns-in-Neg t c = (negation_computes c.args.env.now.vals c.requires.values _ _ (ap expr_tree c.in-Neg.is) c.requires.evaluable.linear _
    (c.value.ensures ∙ ap (λ e. value_of c.args.env.now.vals (expr_tree e)) c.deref.ensures)).gives
