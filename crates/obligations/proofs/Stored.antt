-- Numbers of rows and forms come back from their bits as they were.
use Rattle.std.proofs.Common.{◌≡◌, ℕ, zero, suc, ◌^◌, ◌<◌, ◌≤◌, eqb, eqb-true, ℤ, pos, ◌+ℤ◌, ◌-ℤ◌, ◌*ℤ◌, neg_ℤ, unsigned_abs, Bool, true, false, cond, List, [], ◌∷◌, get_or, set, get_or-set_other, refl, sym, subst, ap, ap₂, ◌∙◌, arith, to_z, of_z, FitsSigned}
use Rattle.std.specs.Int.{w64}
use Rattle.std.proofs.lemmas.Bool.{eqb-false}
use Rattle.std.proofs.lemmas.Int.{ints, to_z-of_z, unsigned_abs-mul, fits_signed_from_abs}
use Rattle.std.proofs.lemmas.Nat.{mul-le}

-- a number of at most 62 bits
pub stored_wide : (x : ℤ) → unsigned_abs x ≤ 2 ^ 62 → to_z w64 (of_z w64 x) ≡ x
stored_wide x small = to_z-of_z w64 x (omega (arith, ints))

-- the bound of a row
pub stored_bound : (most constant : ℤ) → unsigned_abs most ≤ 1 → unsigned_abs constant < 2 ^ 62 → to_z w64 (of_z w64 (to_z w64 (of_z w64 most) -ℤ to_z w64 (of_z w64 constant))) ≡ most -ℤ constant
stored_bound most constant small fits =
    ap (λ z. to_z w64 (of_z w64 z)) (ap₂ (λ m n. m -ℤ n) (stored_wide most (omega arith)) (stored_wide constant (omega arith)))
    ∙ stored_wide (most -ℤ constant) (omega (arith, ints))

-- a number with the other sign
pub stored_neg : (k : ℤ) → unsigned_abs k < 2 ^ 62 → to_z w64 (of_z w64 (pos 0 -ℤ to_z w64 (of_z w64 k))) ≡ neg_ℤ k
stored_neg k fits =
    ap (λ z. to_z w64 (of_z w64 (pos 0 -ℤ z))) (stored_wide k (omega arith)) ∙ (stored_wide (pos 0 -ℤ k) (omega (arith, ints)) ∙ zero_minus)
  where
    zero_minus : pos 0 -ℤ k ≡ neg_ℤ k
    zero_minus = omega (arith, ints)

product_small : (c : ℤ) (w : ℕ) → unsigned_abs c ≤ 2 ^ 41 → w ≤ 2 ^ 20 → unsigned_abs (c *ℤ pos w) ≤ 2 ^ 61
product_small c w small light = let product = unsigned_abs-mul c (pos w) in let bound = mul-le (unsigned_abs c) w (2 ^ 41) (2 ^ 20) small light in omega arith

weight_parts : (k c x : ℤ) (w : ℕ) → x ≡ pos w → unsigned_abs k ≤ 2 ^ 41 → unsigned_abs c ≤ 2 ^ 41 → w ≤ 2 ^ 20
    → to_z w64 (of_z w64 k) +ℤ to_z w64 (of_z w64 (to_z w64 (of_z w64 c) *ℤ to_z w64 (of_z w64 x))) ≡ k +ℤ c *ℤ pos w
weight_parts k c x w is k_small c_small light =
    let product = product_small c w c_small light in
    let weight : to_z w64 (of_z w64 x) ≡ pos w = ap (λ z. to_z w64 (of_z w64 z)) is ∙ stored_wide (pos w) (omega (arith, ints)) in
    let second : to_z w64 (of_z w64 (to_z w64 (of_z w64 c) *ℤ to_z w64 (of_z w64 x))) ≡ c *ℤ pos w =
    ap (λ z. to_z w64 (of_z w64 z)) (ap₂ (λ m n. m *ℤ n) (stored_wide c (omega arith)) weight) ∙ stored_wide (c *ℤ pos w) (omega arith) in
    ap₂ (λ m n. m +ℤ n) (stored_wide k (omega arith)) second

-- the constant of a form at a weight
pub stored_weight : (k c x : ℤ) (w : ℕ) → x ≡ pos w → unsigned_abs k ≤ 2 ^ 41 → unsigned_abs c ≤ 2 ^ 41 → w ≤ 2 ^ 20
    → to_z w64 (of_z w64 (to_z w64 (of_z w64 k) +ℤ to_z w64 (of_z w64 (to_z w64 (of_z w64 c) *ℤ to_z w64 (of_z w64 x))))) ≡ k +ℤ c *ℤ pos w
stored_weight k c x w is k_small c_small light =
    let product = product_small c w c_small light in
    ap (λ z. to_z w64 (of_z w64 z)) (weight_parts k c x w is k_small c_small light) ∙ stored_wide (k +ℤ c *ℤ pos w) (omega (arith, ints, product))

pub weight_fits : (k c x : ℤ) (w : ℕ) → x ≡ pos w → unsigned_abs k ≤ 2 ^ 41 → unsigned_abs c ≤ 2 ^ 41 → w ≤ 2 ^ 20
    → FitsSigned w64 (to_z w64 (of_z w64 k) +ℤ to_z w64 (of_z w64 (to_z w64 (of_z w64 c) *ℤ to_z w64 (of_z w64 x))))
weight_fits k c x w is k_small c_small light =
    let product = product_small c w c_small light in
    subst (FitsSigned w64) (sym (weight_parts k c x w is k_small c_small light)) (fits_signed_from_abs w64 (k +ℤ c *ℤ pos w) (omega (arith, ints, product)))

set_zero : (xs : List ℤ) (i : ℕ) → get_or (set xs i (pos 0)) i (pos 0) ≡ pos 0
set_zero [] i = refl
set_zero (x ∷ xs) zero = refl
set_zero (x ∷ xs) (suc i) = set_zero xs i

-- a list with a 0 in one place
pub zero_at : (xs : List ℤ) (i v : ℕ) → get_or (set xs i (pos 0)) v (pos 0) ≡ cond (eqb v i) (pos 0) (get_or xs v (pos 0))
zero_at xs i v = by (eqb v i) refl
  where
    by : (b : Bool) → eqb v i ≡ b → get_or (set xs i (pos 0)) v (pos 0) ≡ cond b (pos 0) (get_or xs v (pos 0))
    by true e = ap (λ k. get_or (set xs i (pos 0)) k (pos 0)) (eqb-true v i e) ∙ set_zero xs i
    by false e = get_or-set_other xs i v (pos 0) (pos 0) (eqb-false v i e)
