-- The value of a linear expression fits: its magnitude stays far below what 128 bits hold.
use Rattle.std.proofs.Common.{◌≡◌, ℕ, zero, suc, ◌+◌, ◌*◌, ◌^◌, ◌<◌, ◌≤◌, ℤ, pos, ◌+ℤ◌, ◌*ℤ◌, neg_ℤ, ◌≤ℤ◌, int_le, Bool, true, false, ◌&&◌, List, [], ◌∷◌, length, refl, sym, ap, arith, unsigned_abs, FitsSigned, subst}
use Rattle.std.specs.Int.{w128}
use Rattle.std.proofs.lemmas.Int.{ints, unsigned_abs-mul, fits_signed_from_abs}
use Rattle.std.proofs.lemmas.Nat.{mul-le}
use Rattle.sched_base.specs.declared.limits.TheConstants.{MAX_LOAD}
use Rattle.policy_tree.specs.Trees.{ExprTree, number, variable, negation, plus, minus, times}
use Rattle.policy_eval.specs.Forms.{HasSmallForm, IsLinear, IsSmall, coefficient_of, constant_of}
use Rattle.policy_eval.specs.Ranges.{AreIn, IsIn, Range, wide_ranges, within}
use Rattle.policy_eval.specs.Values.{Assignment, value_of, variable_of}
use Rattle.policy_eval.proofs.Forms.{value_of-form, variable_part, weighted}

abs-add : (a b : ℤ) → unsigned_abs (a +ℤ b) ≤ unsigned_abs a + unsigned_abs b
abs-add a b = omega (arith, ints)

abs_within : (m : ℕ) (x : ℤ) → IsIn (within (pos m)) x → unsigned_abs x ≤ m
abs_within m x is = let low = is.above in let high = is.below in omega (arith, ints)

-- each value is at most this far from 0
AllBelow : ℕ → List ℤ → Type 0
AllBelow m [] = Unit {0}
AllBelow m (x ∷ xs) = (unsigned_abs x ≤ m) × AllBelow m xs

weighted_below : (c : ℕ → ℤ) (k m : ℕ) → ((v : ℕ) → unsigned_abs (c v) ≤ k) → (i : ℕ) (xs : List ℤ) → AllBelow m xs → unsigned_abs (weighted c i xs) ≤ length xs * (k * m)
unfolding AllBelow
weighted_below c k m small i [] below = omega arith
weighted_below c k m small i (x ∷ xs) below =
    let rest = weighted_below c k m small (suc i) xs below.1 in
    let added = abs-add (c i *ℤ x) (weighted c (suc i) xs) in
    let product = unsigned_abs-mul (c i) x in
    let bound = mul-le (unsigned_abs (c i)) (unsigned_abs x) k m (small i) below.0 in
    omega arith

and_true : (a b : Bool) → (a && b) ≡ true → (a ≡ true) × (b ≡ true)
and_true true b e = (refl, e)
and_true false b e = absurd (cc)

-- the range lies within the magnitude
inside : ℕ → Range → Bool
inside m r = int_le (neg_ℤ (pos m)) r.low && int_le r.high (pos m)

all_inside : ℕ → List Range → Bool
all_inside m [] = true
all_inside m (r ∷ rs) = inside m r && all_inside m rs

inside-abs : (m : ℕ) (r : Range) (x : ℤ) → inside m r ≡ true → IsIn r x → unsigned_abs x ≤ m
unfolding inside
inside-abs m r x test is =
    let parts = and_true (int_le (neg_ℤ (pos m)) r.low) (int_le r.high (pos m)) test in
    let low : neg_ℤ (pos m) ≤ℤ r.low = le_of (neg_ℤ (pos m)) r.low parts.0 in let high : r.high ≤ℤ pos m = le_of r.high (pos m) parts.1 in
    let above = is.above in let below = is.below in
    omega (arith, ints)
  where
    le_of : (a b : ℤ) → int_le a b ≡ true → a ≤ℤ b
    le_of a b e = grind (arith, ints)

AllBelow-in : (m : ℕ) (rs : List Range) (xs : List ℤ) → all_inside m rs ≡ true → AreIn rs xs → AllBelow m xs
unfolding all_inside AllBelow
AllBelow-in m [] [] test is = tt
AllBelow-in m [] (x ∷ xs) test is = absurd is
AllBelow-in m (r ∷ rs) [] test is = absurd is
AllBelow-in m (r ∷ rs) (x ∷ xs) test is =
    let parts = and_true (inside m r) (all_inside m rs) test in
    (inside-abs m r x parts.0 is.0, AllBelow-in m rs xs parts.1 is.1)

length-in : (rs : List Range) (xs : List ℤ) → AreIn rs xs → length xs ≡ length rs
length-in [] [] is = refl
length-in [] (x ∷ xs) is = absurd is
length-in (r ∷ rs) [] is = absurd is
length-in (r ∷ rs) (x ∷ xs) is = ap suc (length-in rs xs is.1)

wide_below : (xs : List ℤ) → AreIn wide_ranges xs → AllBelow MAX_LOAD xs
unfolding wide_ranges all_inside inside
wide_below xs is = AllBelow-in MAX_LOAD wide_ranges xs refl is

pub wide_length : (xs : List ℤ) → AreIn wide_ranges xs → length xs ≡ 30
unfolding wide_ranges
wide_length xs is = length-in wide_ranges xs is

variable_below : (m : ℕ) (xs : List ℤ) (at : ℕ) → AllBelow m xs → unsigned_abs (variable_of xs at) ≤ m
unfolding AllBelow
variable_below m [] at below = omega arith
variable_below m (x ∷ xs) zero below = below.0
variable_below m (x ∷ xs) (suc at) below = variable_below m xs at below.1

small_abs : (x : ℤ) → IsSmall x → unsigned_abs x ≤ 1099511627776
small_abs x is = abs_within 1099511627776 x is

form_below : (e : ExprTree) → IsLinear e → HasSmallForm e → (xs : Assignment) → AreIn wide_ranges xs → unsigned_abs (value_of xs e) < 2 ^ 76
form_below e linear small xs wide =
    let constant = small_abs (constant_of e) small.constant in
    let variables = weighted_below (coefficient_of e) 1099511627776 MAX_LOAD (λ v. small_abs (coefficient_of e v) (small.coefficients v)) 0 xs (wide_below xs wide) in
    let long = wide_length xs wide in let split = abs-add (constant_of e) (variable_part e xs) in
    let counted : length xs * (1099511627776 * MAX_LOAD) ≡ 30 * (1099511627776 * MAX_LOAD) = ap (λ n. n * (1099511627776 * MAX_LOAD)) long in
    subst (λ z. unsigned_abs z < 2 ^ 76) (sym (value_of-form e linear xs)) (omega arith)

-- the magnitude of the value of a linear expression over variables in their wide ranges
pub value_below : (e : ExprTree) → IsLinear e → (xs : Assignment) → AreIn wide_ranges xs → unsigned_abs (value_of xs e) < 2 ^ 76
value_below (number n) linear xs wide = let small = small_abs n linear in omega arith
value_below (variable at) linear xs wide = let small = variable_below MAX_LOAD xs at (wide_below xs wide) in omega arith
value_below (negation e) linear xs wide = form_below (negation e) linear linear.1 xs wide
value_below (plus l r) linear xs wide = form_below (plus l r) linear linear.2 xs wide
value_below (minus l r) linear xs wide = form_below (minus l r) linear linear.2 xs wide
value_below (times l r) linear xs wide = form_below (times l r) linear linear.3 xs wide

pub value_fits : (e : ExprTree) → IsLinear e → (xs : Assignment) → AreIn wide_ranges xs → FitsSigned w128 (value_of xs e)
value_fits e linear xs wide = fits_signed_from_abs w128 (value_of xs e) (let below = value_below e linear xs wide in omega arith)
