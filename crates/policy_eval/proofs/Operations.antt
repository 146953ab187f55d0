-- What the operators of the code give, at operands that were computed exactly.
use Rattle.std.proofs.Common.{◌≡◌, ℤ, pos, ◌+ℤ◌, ◌-ℤ◌, ◌*ℤ◌, neg_ℤ, sym, ap, ◌∙◌, FitsSigned, subst, to_z, of_z}
use Rattle.std.specs.Int.{w128}
use Rattle.std.proofs.Math.IntN.{+ℤ_idl}
use Rattle.std.proofs.lemmas.Int.{to_z-of_z}
use Rattle.policy_tree.specs.Trees.{ExprTree, negation, plus, minus, times}
use Rattle.policy_eval.specs.Forms.{IsLinear}
use Rattle.policy_eval.specs.Ranges.{AreIn, wide_ranges}
use Rattle.policy_eval.specs.Values.{Assignment, value_of}
use Rattle.policy_eval.proofs.Bounds.{value_fits}

-- a number as the code reads it back
abbrev pub read : ℤ → ℤ
read a = to_z w128 (of_z w128 a)

-- the number fits, and is read back as the value of the expression
pub record Computes (xs : Assignment) (e : ExprTree) (z : ℤ) : Type 0 where
  pub fits : FitsSigned w128 z
  pub gives : read z ≡ value_of xs e

module _ (xs : Assignment) (wide : AreIn wide_ranges xs) where
  Computes-exact : (e : ExprTree) → IsLinear e → (z : ℤ) → z ≡ value_of xs e → Computes xs e z
  Computes-exact e linear z is =
      let fits : FitsSigned w128 z = subst (FitsSigned w128) (sym is) (value_fits e linear xs wide) in
      record { fits = fits; gives = to_z-of_z w128 z fits ∙ is }

  read_exact : (e : ExprTree) → IsLinear e → (a : ℤ) → a ≡ value_of xs e → read a ≡ value_of xs e
  read_exact e linear a is = (Computes-exact e linear a is).gives

  -- at an operator of two sides
  both_sides : (op : ℤ → ℤ → ℤ) (e l r : ExprTree) → IsLinear e → IsLinear l → IsLinear r → op (value_of xs l) (value_of xs r) ≡ value_of xs e
      → (a b : ℤ) → a ≡ value_of xs l → b ≡ value_of xs r → Computes xs e (op (read a) (read b))
  both_sides op e l r linear left right meant a b at_left at_right =
      Computes-exact e linear (op (read a) (read b)) (ap (λ z. op z (read b)) (read_exact l left a at_left) ∙ (ap (λ z. op (value_of xs l) z) (read_exact r right b at_right) ∙ meant))

  pub plus_computes : (e l r : ExprTree) → e ≡ plus l r → IsLinear e → (a b : ℤ) → a ≡ value_of xs l → b ≡ value_of xs r → Computes xs e (read a +ℤ read b)
  plus_computes e l r is linear a b at_left at_right =
      let parts = subst IsLinear is linear in
      both_sides (λ x y. x +ℤ y) e l r linear parts.0 parts.1 (ap (value_of xs) (sym is)) a b at_left at_right

  pub minus_computes : (e l r : ExprTree) → e ≡ minus l r → IsLinear e → (a b : ℤ) → a ≡ value_of xs l → b ≡ value_of xs r → Computes xs e (read a -ℤ read b)
  minus_computes e l r is linear a b at_left at_right =
      let parts = subst IsLinear is linear in
      both_sides (λ x y. x -ℤ y) e l r linear parts.0 parts.1 (ap (value_of xs) (sym is)) a b at_left at_right

  pub times_computes : (e l r : ExprTree) → e ≡ times l r → IsLinear e → (a b : ℤ) → a ≡ value_of xs l → b ≡ value_of xs r → Computes xs e (read a *ℤ read b)
  times_computes e l r is linear a b at_left at_right =
      let parts = subst IsLinear is linear in
      both_sides (λ x y. x *ℤ y) e l r linear parts.0 parts.1 (ap (value_of xs) (sym is)) a b at_left at_right

  pub negation_computes : (e inner : ExprTree) → e ≡ negation inner → IsLinear e → (a : ℤ) → a ≡ value_of xs inner → Computes xs e (pos 0 -ℤ read a)
  negation_computes e inner is linear a at =
      let parts = subst IsLinear is linear in
      Computes-exact e linear (pos 0 -ℤ read a)
      (ap (λ z. pos 0 -ℤ z) (read_exact inner parts.0 a at) ∙ (+ℤ_idl (neg_ℤ (value_of xs inner)) ∙ ap (value_of xs) (sym is)))
