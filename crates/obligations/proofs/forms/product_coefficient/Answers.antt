use Rattle.std.proofs.Common.{◌≡◌, subst, sym, ap₂, ◌+ℤ◌, ◌*ℤ◌, ◌∙◌}
use Rattle.std.specs.Int.{w64}
use Rattle.std.proofs.lemmas.Int.{to_z-of_z}
use Rattle.policy_eval.specs.Forms.{IsSmall}
use Rattle.obligations.proofs.Products.{stored_sum}
use Rattle.obligations.proofs.forms.product_coefficient.Goals as goal

pub returns-clause-value : goal.returns-clause-value
returns-clause-value c =
    let first : c.product.result ≡ c.args.left_constant *ℤ c.args.right_coefficient =
    c.product.ensures ∙ ap₂ (λ m n. m *ℤ n) (to_z-of_z w64 c.args.left_constant c.ranges.left_constant) (to_z-of_z w64 c.args.right_coefficient c.ranges.right_coefficient) in
    let second : c.product-2.result ≡ c.args.left_coefficient *ℤ c.args.right_constant =
    c.product-2.ensures ∙ ap₂ (λ m n. m *ℤ n) (to_z-of_z w64 c.args.left_coefficient c.ranges.left_coefficient) (to_z-of_z w64 c.args.right_constant c.ranges.right_constant) in
    stored_sum c.product.result c.product-2.result _ _ (subst IsSmall (sym first) c.requires.first) (subst IsSmall (sym second) c.requires.second)
    (subst IsSmall (sym (ap₂ (λ x y. x +ℤ y) first second)) c.requires.sum) first second

pub returns-clause-small : goal.returns-clause-small
returns-clause-small c = subst IsSmall (sym (returns-clause-value c)) c.requires.sum
