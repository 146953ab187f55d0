-- The value of a linear expression is its constant and the sum of its coefficients times the variables.
use Rattle.std.proofs.Common.{◌≡◌, ℕ, zero, suc, ◌+◌, ◌<◌, eqb, ℤ, pos, ◌+ℤ◌, ◌-ℤ◌, ◌*ℤ◌, neg_ℤ, Bool, true, false, cond, ◌||◌, ◌&&◌, List, [], ◌∷◌, get_or, refl, sym, ap, ◌∙◌, arith, ⊎_elim, inl, inr, ◌⊎◌, eq-eqb, ne_eqb}
use Rattle.std.proofs.Math.IntN.{*ℤ_comm, *ℤ-zero, zero-*ℤ, +ℤ_idr}
use Rattle.std.proofs.lemmas.Int.{ints}
use Rattle.policy_tree.specs.Trees.{ExprTree, number, variable, negation, plus, minus, times}
use Rattle.policy_eval.specs.Forms.{IsLinear, IsScaled, coefficient_of, constant_of, has_reference}
use Rattle.policy_eval.specs.Values.{Assignment, value_of}
use Rattle.policy_eval.proofs.Products.{+ℤ-*ℤ, *ℤ-+ℤ, -ℤ-*ℤ, neg_ℤ-*ℤ, *ℤ_assoc, product_of_sums}

-- the sum of coefficients times values, the values being those of the variables from i on
abbrev pub weighted : (ℕ → ℤ) → ℕ → List ℤ → ℤ
weighted c i [] = pos 0
weighted c i (x ∷ xs) = c i *ℤ x +ℤ weighted c (suc i) xs

weighted_plus : (c d : ℕ → ℤ) (i : ℕ) (xs : List ℤ) → weighted (λ v. c v +ℤ d v) i xs ≡ weighted c i xs +ℤ weighted d i xs
weighted_plus c d i [] = refl
weighted_plus c d i (x ∷ xs) = let rest = weighted_plus c d (suc i) xs in let here = +ℤ-*ℤ (c i) (d i) x in omega (arith, ints)

pub weighted_minus : (c d : ℕ → ℤ) (i : ℕ) (xs : List ℤ) → weighted (λ v. c v -ℤ d v) i xs ≡ weighted c i xs -ℤ weighted d i xs
weighted_minus c d i [] = refl
weighted_minus c d i (x ∷ xs) = let rest = weighted_minus c d (suc i) xs in let here = -ℤ-*ℤ (c i) (d i) x in omega (arith, ints)

pub weighted_negated : (c : ℕ → ℤ) (i : ℕ) (xs : List ℤ) → weighted (λ v. neg_ℤ (c v)) i xs ≡ neg_ℤ (weighted c i xs)
weighted_negated c i [] = refl
weighted_negated c i (x ∷ xs) = let rest = weighted_negated c (suc i) xs in let here = neg_ℤ-*ℤ (c i) x in omega (arith, ints)

weighted_scaled : (k : ℤ) (d : ℕ → ℤ) (i : ℕ) (xs : List ℤ) → weighted (λ v. k *ℤ d v) i xs ≡ k *ℤ weighted d i xs
weighted_scaled k d i [] = sym (*ℤ-zero k)
weighted_scaled k d i (x ∷ xs) =
    ap (λ z. (k *ℤ d i) *ℤ x +ℤ z) (weighted_scaled k d (suc i) xs)
    ∙ (ap (λ z. z +ℤ k *ℤ weighted d (suc i) xs) (*ℤ_assoc k (d i) x) ∙ sym (*ℤ-+ℤ k (d i *ℤ x) (weighted d (suc i) xs)))

-- the coefficients on the other side
weighted_swapped : (c : ℕ → ℤ) (k : ℤ) (i : ℕ) (xs : List ℤ) → weighted (λ v. c v *ℤ k) i xs ≡ weighted c i xs *ℤ k
weighted_swapped c k i [] = sym (zero-*ℤ k)
weighted_swapped c k i (x ∷ xs) =
    let rest = weighted_swapped c k (suc i) xs in
    let first : (c i *ℤ k) *ℤ x ≡ (c i *ℤ x) *ℤ k = *ℤ_assoc (c i) k x ∙ (ap (λ z. c i *ℤ z) (*ℤ_comm k x) ∙ sym (*ℤ_assoc (c i) x k)) in
    let joined = +ℤ-*ℤ (c i *ℤ x) (weighted c (suc i) xs) k in
    omega (arith, ints)

weighted_none : (c : ℕ → ℤ) → ((v : ℕ) → c v ≡ pos 0) → (i : ℕ) (xs : List ℤ) → weighted c i xs ≡ pos 0
weighted_none c none i [] = refl
weighted_none c none i (x ∷ xs) =
    ap (λ z. z *ℤ x +ℤ weighted c (suc i) xs) (none i)
    ∙ (ap (λ z. pos 0 *ℤ x +ℤ z) (weighted_none c none (suc i) xs) ∙ (ap (λ z. z +ℤ pos 0) (zero-*ℤ x)))

-- the coefficients of a lone variable
abbrev lone : ℕ → ℕ → ℤ
lone at v = cond (eqb at v) (pos 1) (pos 0)

weighted_past : (at i : ℕ) (xs : List ℤ) → at < i → weighted (lone at) i xs ≡ pos 0
weighted_past at i [] past = refl
weighted_past at i (x ∷ xs) past =
    ap (λ b. cond b (pos 1) (pos 0) *ℤ x +ℤ weighted (lone at) (suc i) xs) (ne_eqb at i (λ e. absurd (omega arith)))
    ∙ (ap (λ z. pos 0 *ℤ x +ℤ z) (weighted_past at (suc i) xs (omega arith)) ∙ ap (λ z. z +ℤ pos 0) (zero-*ℤ x))

weighted_lone : (k i at : ℕ) (xs : List ℤ) → at ≡ i + k → weighted (lone at) i xs ≡ get_or xs k (pos 0)
weighted_lone k i at [] e = refl
weighted_lone zero i at (x ∷ xs) e =
    ap (λ b. cond b (pos 1) (pos 0) *ℤ x +ℤ weighted (lone at) (suc i) xs) (eq-eqb at i (omega arith))
    ∙ (let rest = weighted_past at (suc i) xs (omega arith) in omega (arith, ints))
weighted_lone (suc k) i at (x ∷ xs) e =
    ap (λ b. cond b (pos 1) (pos 0) *ℤ x +ℤ weighted (lone at) (suc i) xs) (ne_eqb at i (λ q. absurd (omega arith)))
    ∙ (let rest = weighted_lone k (suc i) at xs (omega arith) in let none = zero-*ℤ x in omega (arith, ints))

or_none : (a b : Bool) → (a || b) ≡ false → (a ≡ false) × (b ≡ false)
or_none true b e = absurd (cc)
or_none false b e = (refl, e)

pub and_none : (a b : Bool) → (a && b) ≡ false → (a ≡ false) ⊎ (b ≡ false)
and_none true b e = inr e
and_none false b e = inl refl

-- an expression without variables has no coefficient
pub coefficient_none : (e : ExprTree) → has_reference e ≡ false → (v : ℕ) → coefficient_of e v ≡ pos 0
coefficient_none (number n) none v = refl
coefficient_none (variable at) none v = absurd (cc)
coefficient_none (negation e) none v = ap neg_ℤ (coefficient_none e none v)
coefficient_none (plus l r) none v =
    let parts = or_none (has_reference l) (has_reference r) none in
    ap (λ z. z +ℤ coefficient_of r v) (coefficient_none l parts.0 v) ∙ ap (λ z. pos 0 +ℤ z) (coefficient_none r parts.1 v)
coefficient_none (minus l r) none v =
    let parts = or_none (has_reference l) (has_reference r) none in
    ap (λ z. z -ℤ coefficient_of r v) (coefficient_none l parts.0 v) ∙ ap (λ z. pos 0 -ℤ z) (coefficient_none r parts.1 v)
coefficient_none (times l r) none v =
    let parts = or_none (has_reference l) (has_reference r) none in
    ap (λ z. constant_of l *ℤ coefficient_of r v +ℤ z *ℤ constant_of r) (coefficient_none l parts.0 v)
    ∙ (ap (λ z. constant_of l *ℤ z +ℤ pos 0 *ℤ constant_of r) (coefficient_none r parts.1 v)
    ∙ (ap (λ z. z +ℤ pos 0 *ℤ constant_of r) (*ℤ-zero (constant_of l)) ∙ ap (λ z. pos 0 +ℤ z) (zero-*ℤ (constant_of r))))

-- the sum of the coefficients times the variables
abbrev pub variable_part : ExprTree → Assignment → ℤ
variable_part e xs = weighted (coefficient_of e) 0 xs

-- one side of a product has no variables
one_side : (l r : ExprTree) (xs : Assignment) → IsScaled l r → variable_part l xs *ℤ variable_part r xs ≡ pos 0
one_side l r xs scaled = ⊎_elim
    (λ (none : has_reference l ≡ false). ap (λ z. z *ℤ variable_part r xs) (weighted_none (coefficient_of l) (coefficient_none l none) 0 xs) ∙ zero-*ℤ (variable_part r xs))
    (λ (none : has_reference r ≡ false). ap (λ z. variable_part l xs *ℤ z) (weighted_none (coefficient_of r) (coefficient_none r none) 0 xs) ∙ *ℤ-zero (variable_part l xs))
    (and_none (has_reference l) (has_reference r) scaled)

variable_part-times : (l r : ExprTree) (xs : Assignment) → variable_part (times l r) xs ≡ constant_of l *ℤ variable_part r xs +ℤ variable_part l xs *ℤ constant_of r
variable_part-times l r xs =
    weighted_plus (λ v. constant_of l *ℤ coefficient_of r v) (λ v. coefficient_of l v *ℤ constant_of r) 0 xs
    ∙ (ap (λ z. z +ℤ weighted (λ v. coefficient_of l v *ℤ constant_of r) 0 xs) (weighted_scaled (constant_of l) (coefficient_of r) 0 xs)
    ∙ ap (λ z. constant_of l *ℤ variable_part r xs +ℤ z) (weighted_swapped (coefficient_of l) (constant_of r) 0 xs))

-- the value is that of the linear form
pub value_of-form : (e : ExprTree) → IsLinear e → (xs : Assignment) → value_of xs e ≡ constant_of e +ℤ variable_part e xs
value_of-form (number n) linear xs = let none = weighted_none (λ v. pos 0) (λ v. refl) 0 xs in omega (arith, ints)
value_of-form (variable at) linear xs = let found = weighted_lone at 0 at xs (omega arith) in omega (arith, ints)
value_of-form (negation e) linear xs =
    let inner = value_of-form e linear.0 xs in let flipped = weighted_negated (coefficient_of e) 0 xs in omega (arith, ints)
value_of-form (plus l r) linear xs =
    let left = value_of-form l linear.0 xs in let right = value_of-form r linear.1 xs in
    let added = weighted_plus (coefficient_of l) (coefficient_of r) 0 xs in
    omega (arith, ints)
value_of-form (minus l r) linear xs =
    let left = value_of-form l linear.0 xs in let right = value_of-form r linear.1 xs in
    let taken = weighted_minus (coefficient_of l) (coefficient_of r) 0 xs in
    omega (arith, ints)
value_of-form (times l r) linear xs =
    let left = value_of-form l linear.0 xs in let right = value_of-form r linear.1 xs in
    ap (λ z. z *ℤ value_of xs r) left
    ∙ (ap (λ z. (constant_of l +ℤ variable_part l xs) *ℤ z) right
    ∙ (product_of_sums (constant_of l) (variable_part l xs) (constant_of r) (variable_part r xs)
    ∙ (ap (λ z. (constant_of l *ℤ constant_of r +ℤ (constant_of l *ℤ variable_part r xs +ℤ variable_part l xs *ℤ constant_of r)) +ℤ z) (one_side l r xs linear.2)
    ∙ (+ℤ_idr _ ∙ ap (λ z. constant_of l *ℤ constant_of r +ℤ z) (sym (variable_part-times l r xs))))))
