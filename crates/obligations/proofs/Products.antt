-- Of the two products that make a coefficient of a linear product one is 0, so each of them is small.
use Rattle.std.proofs.Common.{◌≡◌, ℕ, ◌+◌, ◌<◌, eqb, eqb-true, ℤ, pos, ◌+ℤ◌, ◌-ℤ◌, ◌*ℤ◌, Bool, true, false, List, length, get_or, set, get_or-set_same, get_or-set_other, refl, ap, ◌∙◌, sym, subst, arith, ⊎_elim, ap₂, to_z, of_z}
use Rattle.std.specs.Int.{w64}
use Rattle.std.proofs.Math.IntN.{*ℤ-zero, zero-*ℤ, +ℤ_idr}
use Rattle.std.proofs.lemmas.Int.{ints, to_z-of_z}
use Rattle.std.proofs.lemmas.Bool.{eqb-false}
use Rattle.policy_tree.specs.Trees.{ExprTree, times}
use Rattle.policy_eval.specs.Forms.{IsLinear, IsSmall, coefficient_of, constant_of, has_reference}
use Rattle.policy_eval.proofs.Forms.{and_none, coefficient_none}

none_small : IsSmall (pos 0)
none_small = record { above = omega (arith, ints); below = omega (arith, ints) }

module _ (l r : ExprTree) (linear : IsLinear (times l r)) (v : ℕ) where
  pub sum_small : IsSmall (constant_of l *ℤ coefficient_of r v +ℤ coefficient_of l v *ℤ constant_of r)
  sum_small = linear.3.coefficients v

  pub first_small : IsSmall (constant_of l *ℤ coefficient_of r v)
  first_small = ⊎_elim
      (λ (none : has_reference l ≡ false).
      let zero : coefficient_of l v *ℤ constant_of r ≡ pos 0 = ap (λ x. x *ℤ constant_of r) (coefficient_none l none v) ∙ zero-*ℤ (constant_of r) in
      subst IsSmall (ap (λ x. constant_of l *ℤ coefficient_of r v +ℤ x) zero ∙ +ℤ_idr (constant_of l *ℤ coefficient_of r v)) sum_small)
      (λ (none : has_reference r ≡ false).
      let zero : constant_of l *ℤ coefficient_of r v ≡ pos 0 = ap (λ x. constant_of l *ℤ x) (coefficient_none r none v) ∙ *ℤ-zero (constant_of l) in
      subst IsSmall (sym zero) none_small)
      (and_none (has_reference l) (has_reference r) linear.2)

  pub second_small : IsSmall (coefficient_of l v *ℤ constant_of r)
  second_small = ⊎_elim
      (λ (none : has_reference l ≡ false).
      let zero : coefficient_of l v *ℤ constant_of r ≡ pos 0 = ap (λ x. x *ℤ constant_of r) (coefficient_none l none v) ∙ zero-*ℤ (constant_of r) in
      subst IsSmall (sym zero) none_small)
      (λ (none : has_reference r ≡ false).
      let zero : constant_of l *ℤ coefficient_of r v ≡ pos 0 = ap (λ x. constant_of l *ℤ x) (coefficient_none r none v) ∙ *ℤ-zero (constant_of l) in
      let sum : constant_of l *ℤ coefficient_of r v +ℤ coefficient_of l v *ℤ constant_of r ≡ coefficient_of l v *ℤ constant_of r = omega (arith, ints) in
      subst IsSmall sum sum_small)
      (and_none (has_reference l) (has_reference r) linear.2)

-- a small number comes back from its bits as it was
pub stored : (x : ℤ) → IsSmall x → to_z w64 (of_z w64 x) ≡ x
stored x small = let above = small.above in let below = small.below in to_z-of_z w64 x (omega (arith, ints))

-- the product of two numbers that come from their bits
pub stored_product : (x y a b : ℤ) → IsSmall x → IsSmall y → x ≡ a → y ≡ b → a *ℤ b ≡ to_z w64 (of_z w64 x) *ℤ to_z w64 (of_z w64 y)
stored_product x y a b x_small y_small x_is y_is = sym (ap₂ (λ m n. m *ℤ n) (stored x x_small ∙ x_is) (stored y y_small ∙ y_is))

-- a sum of two of them that is small, and a difference
pub stored_sum : (x y a b : ℤ) → IsSmall x → IsSmall y → IsSmall (x +ℤ y) → x ≡ a → y ≡ b → to_z w64 (of_z w64 (to_z w64 (of_z w64 x) +ℤ to_z w64 (of_z w64 y))) ≡ a +ℤ b
stored_sum x y a b x_small y_small small x_is y_is =
    ap (λ z. to_z w64 (of_z w64 z)) (ap₂ (λ m n. m +ℤ n) (stored x x_small) (stored y y_small)) ∙ (stored (x +ℤ y) small ∙ ap₂ (λ m n. m +ℤ n) x_is y_is)

pub stored_difference : (x y a b : ℤ) → IsSmall x → IsSmall y → x ≡ a → y ≡ b → to_z w64 (of_z w64 (to_z w64 (of_z w64 x) -ℤ to_z w64 (of_z w64 y))) ≡ a -ℤ b
stored_difference x y a b x_small y_small x_is y_is =
    let x_above = x_small.above in let x_below = x_small.below in let y_above = y_small.above in let y_below = y_small.below in
    ap (λ z. to_z w64 (of_z w64 z)) (ap₂ (λ m n. m -ℤ n) (stored x x_small) (stored y y_small))
    ∙ (to_z-of_z w64 (x -ℤ y) (omega (arith, ints)) ∙ ap₂ (λ m n. m -ℤ n) x_is y_is)

-- one more item of an array
pub set_more : (xs : List ℤ) (i : ℕ) (x : ℤ) (f : ℕ → ℤ) → i < length xs → ((v : ℕ) → v < i → get_or xs v (pos 0) ≡ f v) → x ≡ f i → (v : ℕ) → v < i + 1 → get_or (set xs i x) v (pos 0) ≡ f v
set_more xs i x f inside before here v lt = by (eqb v i) refl
  where
    by : (b : Bool) → eqb v i ≡ b → get_or (set xs i x) v (pos 0) ≡ f v
    by true e = let same : v ≡ i = eqb-true v i e in ap (λ k. get_or (set xs i x) k (pos 0)) same ∙ (get_or-set_same xs i x (pos 0) inside ∙ (here ∙ ap f (sym same)))
    by false e = let other : v ≡ i → ⊥ = eqb-false v i e in get_or-set_other xs i v x (pos 0) other ∙ before v (omega (arith, other))
