-- The two products of a product's coefficient are those of the linear form.
use Rattle.std.proofs.Common.{ap, ap₂, ◌∙◌, subst, ◌+ℤ◌}
use Rattle.policy_tree.specs.Trees.{expr_tree, times}
use Rattle.policy_eval.specs.Forms.{IsLinear, IsSmall, coefficient_of, constant_of}
use Rattle.obligations.proofs.Products.{first_small, second_small, stored_product, sum_small}
use Rattle.obligations.proofs.forms.+coefficient.Goals as goal

pub product_coefficient-requires-clause-first : goal.product_coefficient-requires-clause-first
product_coefficient-requires-clause-first t c =
    let l = expr_tree c.in-Mul.left.value in let r = expr_tree c.in-Mul.right.value in
    let linear : IsLinear (times l r) = subst IsLinear (ap expr_tree c.in-Mul.is) c.requires in
    let left = c.constant.ensures.value ∙ ap (λ e. constant_of (expr_tree e)) c.deref-in-Mul.ensures in
    let right = c.coefficient-in-Mul.ensures.value ∙ ap (λ e. coefficient_of (expr_tree e) c.args.variable) c.deref-in-Mul-2.ensures in
    subst IsSmall (stored_product _ _ _ _ c.constant.ensures.small c.coefficient-in-Mul.ensures.small left right) (first_small l r linear c.args.variable)

pub product_coefficient-requires-clause-second : goal.product_coefficient-requires-clause-second
product_coefficient-requires-clause-second t c =
    let l = expr_tree c.in-Mul.left.value in let r = expr_tree c.in-Mul.right.value in
    let linear : IsLinear (times l r) = subst IsLinear (ap expr_tree c.in-Mul.is) c.requires in
    let left = c.coefficient-in-Mul-2.ensures.value ∙ ap (λ e. coefficient_of (expr_tree e) c.args.variable) c.deref-in-Mul-3.ensures in
    let right = c.constant-in-Mul.ensures.value ∙ ap (λ e. constant_of (expr_tree e)) c.deref-in-Mul-4.ensures in
    subst IsSmall (stored_product _ _ _ _ c.coefficient-in-Mul-2.ensures.small c.constant-in-Mul.ensures.small left right) (second_small l r linear c.args.variable)

pub product_coefficient-requires-clause-sum : goal.product_coefficient-requires-clause-sum
product_coefficient-requires-clause-sum t c =
    let l = expr_tree c.in-Mul.left.value in let r = expr_tree c.in-Mul.right.value in
    let linear : IsLinear (times l r) = subst IsLinear (ap expr_tree c.in-Mul.is) c.requires in
    let left = c.constant.ensures.value ∙ ap (λ e. constant_of (expr_tree e)) c.deref-in-Mul.ensures in
    let right = c.coefficient-in-Mul.ensures.value ∙ ap (λ e. coefficient_of (expr_tree e) c.args.variable) c.deref-in-Mul-2.ensures in
    let other = c.coefficient-in-Mul-2.ensures.value ∙ ap (λ e. coefficient_of (expr_tree e) c.args.variable) c.deref-in-Mul-3.ensures in
    let last = c.constant-in-Mul.ensures.value ∙ ap (λ e. constant_of (expr_tree e)) c.deref-in-Mul-4.ensures in
    subst IsSmall
    (ap₂ (λ x y. x +ℤ y)
    (stored_product _ _ _ _ c.constant.ensures.small c.coefficient-in-Mul.ensures.small left right)
    (stored_product _ _ _ _ c.coefficient-in-Mul-2.ensures.small c.constant-in-Mul.ensures.small other last))
    (sum_small l r linear c.args.variable)
