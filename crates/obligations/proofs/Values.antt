-- The left side of a row made from a linear form is the form's sum of coefficients times values.
use Rattle.std.proofs.Common.{◌≡◌, ℕ, zero, suc, ◌+◌, ◌<◌, eqb, ℤ, pos, ◌+ℤ◌, ◌*ℤ◌, Bool, true, false, cond, List, [], ◌∷◌, ◌++◌, get_or, take, refl, sym, ap, ap₂, ◌∙◌, arith, eq-eqb, ne_eqb}
use Rattle.std.proofs.Math.IntN.{zero-*ℤ, +ℤ_idr, *ℤ-zero}
use Rattle.std.specs.Ordering.{int_eq}
use Rattle.std.proofs.lemmas.Int.{ints}
use Rattle.std.proofs.lemmas.Bool.Decides.{Decides-int_eq}
use Rattle.linear_form.specs.Solution.{left_side, term_value, value_at}
use Rattle.linear_form.specs.Sum.{sum_over}
use Rattle.policy_eval.proofs.Forms.{weighted}
use Rattle.obligations.specs.Forms.{term_of, terms_below}

sum_over-append : {X : Type 0} (f : X → ℤ) (xs ys : List X) → sum_over f (xs ++ ys) ≡ sum_over f xs +ℤ sum_over f ys
sum_over-append f [] ys = omega (arith, ints)
sum_over-append f (x ∷ xs) ys = omega (arith, ints, sum_over-append f xs ys)

-- a term stands for its coefficient times the value, also where it is left out
term_of-value : (values : List ℤ) (v : ℕ) (x : ℤ) → left_side values (term_of v x) ≡ x *ℤ value_at values v
term_of-value values v x = by (int_eq x (pos 0)) refl
  where
    by : (b : Bool) → int_eq x (pos 0) ≡ b → left_side values (cond b [] (record { var = v; coef = x } ∷ [])) ≡ x *ℤ value_at values v
    by true e = let none : x ≡ pos 0 = (Decides-int_eq x (pos 0)).0 e in sym (ap (λ z. z *ℤ value_at values v) none ∙ zero-*ℤ (value_at values v))
    by false e = +ℤ_idr (x *ℤ value_at values v)

-- one more value
weighted_more : (c : ℕ → ℤ) (i : ℕ) (xs : List ℤ) (n : ℕ) → weighted c i (take (suc n) xs) ≡ weighted c i (take n xs) +ℤ c (i + n) *ℤ get_or xs n (pos 0)
weighted_more c i [] zero = omega (arith, ints, *ℤ-zero (c (i + 0)))
weighted_more c i [] (suc n) = omega (arith, ints, *ℤ-zero (c (i + suc n)))
weighted_more c i (x ∷ xs) zero =
    let here : c (i + 0) *ℤ x ≡ c i *ℤ x = ap (λ k. c k *ℤ x) (omega arith) in omega (arith, ints)
weighted_more c i (x ∷ xs) (suc n) =
    let rest = weighted_more c (suc i) xs n in
    let here : c (i + suc n) *ℤ get_or xs n (pos 0) ≡ c (suc i + n) *ℤ get_or xs n (pos 0) = ap (λ k. c k *ℤ get_or xs n (pos 0)) (omega arith) in
    omega (arith, ints)

-- the terms below a number add up to the coefficients times the values below it
pub terms_below-value : (c : ℕ → ℤ) (values : List ℤ) (n : ℕ) → left_side values (terms_below c n) ≡ weighted c 0 (take n values)
terms_below-value c values zero = refl
terms_below-value c values (suc n) =
    let front = sum_over-append (term_value values) (terms_below c n) (term_of n (c n)) in
    let earlier = terms_below-value c values n in
    let last = term_of-value values n (c n) in
    let more = weighted_more c 0 values n in
    let here : c (0 + n) *ℤ get_or values n (pos 0) ≡ c n *ℤ get_or values n (pos 0) = ap (λ k. c k *ℤ get_or values n (pos 0)) (omega arith) in
    omega (arith, ints)

-- the coefficients but one
abbrev pub without : ℕ → (ℕ → ℤ) → ℕ → ℤ
without at c v = cond (eqb v at) (pos 0) (c v)

weighted_past : (c : ℕ → ℤ) (at i : ℕ) (xs : List ℤ) → at < i → weighted (without at c) i xs ≡ weighted c i xs
weighted_past c at i [] past = refl
weighted_past c at i (x ∷ xs) past =
    let rest = weighted_past c at (suc i) xs (omega arith) in
    let here : without at c i *ℤ x ≡ c i *ℤ x = ap (λ t. cond t (pos 0) (c i) *ℤ x) (ne_eqb i at (λ e. absurd (omega arith))) in
    omega (arith, ints)

-- what one coefficient adds to the sum
pub weighted_without : (c : ℕ → ℤ) (at i k : ℕ) (xs : List ℤ) → at ≡ i + k
    → weighted c i xs ≡ weighted (without at c) i xs +ℤ c at *ℤ get_or xs k (pos 0)
weighted_without c at i k [] is = omega (arith, ints, *ℤ-zero (c at))
weighted_without c at i zero (x ∷ xs) is =
    let rest = weighted_past c at (suc i) xs (omega arith) in
    let first : without at c i *ℤ x ≡ pos 0 = ap (λ t. cond t (pos 0) (c i) *ℤ x) (eq-eqb i at (omega arith)) ∙ zero-*ℤ x in
    let here : c at *ℤ x ≡ c i *ℤ x = ap (λ v. c v *ℤ x) (omega arith) in
    omega (arith, ints)
weighted_without c at i (suc k) (x ∷ xs) is =
    let rest = weighted_without c at (suc i) k xs (omega arith) in
    let here : without at c i *ℤ x ≡ c i *ℤ x = ap (λ t. cond t (pos 0) (c i) *ℤ x) (ne_eqb i at (λ e. absurd (omega arith))) in
    omega (arith, ints)

-- terms of the same coefficients
pub terms_below-same : (c d : ℕ → ℤ) (n : ℕ) → ((v : ℕ) → v < n → c v ≡ d v) → terms_below c n ≡ terms_below d n
terms_below-same c d zero same = refl
terms_below-same c d (suc n) same =
    ap₂ (λ xs ys. xs ++ ys) (terms_below-same c d n (λ v lt. same v (omega (arith, lt)))) (ap (term_of n) (same n (omega arith)))
