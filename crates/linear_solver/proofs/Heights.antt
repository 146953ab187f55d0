-- How often the ranges of a box can be halved: each cut in halves lowers the number, and a box with few points has a
-- low one.
use Rattle.std.proofs.Common.{◌≡◌, ℕ, zero, suc, ◌+◌, ◌*◌, ◌/◌, ◌^◌, ◌<◌, ◌≤◌, List, [], ◌∷◌, length, get_or, set, inl, inr, sym, ap, ◌∙◌, refl, arith, mul-le-mul}
use Rattle.std.proofs.lemmas.Bool.{cases_lt, cond-false, ne_eqb}
use Rattle.std.proofs.lemmas.Nat.{pow-add, pow_below}
use Rattle.std.proofs.Math.Nat.{pow-le-pow_right}
use Rattle.linear_form.specs.declared.form.Bound.{Bound}
use Rattle.linear_form.specs.Points.{points_of, size_of}
use Rattle.linear_solver.specs.Boxes.{halvings, halvings_up_to, height, width}

up_to-zero : (most : ℕ) → halvings_up_to most 0 ≡ 0
unfolding halvings_up_to
up_to-zero zero = refl
up_to-zero (suc most) = refl

up_to-some : (most number : ℕ) → 0 < number → halvings_up_to (suc most) number ≡ 1 + halvings_up_to most (number / 2)
unfolding halvings_up_to
up_to-some most number some = cond-false _ 0 (1 + halvings_up_to most (number / 2)) (ne_eqb number 0 (λ none. omega arith))

-- more steps than the number change nothing
up_to-same : (most other number : ℕ) → number ≤ most → number ≤ other → halvings_up_to most number ≡ halvings_up_to other number
up_to-same zero other number le le' =
    let none : number ≡ 0 = omega arith in
    rw none (up_to-zero 0 ∙ sym (up_to-zero other))
up_to-same (suc most) zero number le le' =
    let none : number ≡ 0 = omega arith in
    rw none (up_to-zero (suc most) ∙ sym (up_to-zero 0))
up_to-same (suc most) (suc other) number le le' = elim (cases_lt 0 number) [
  | inl some ↦ up_to-some most number some ∙ ap (λ n. 1 + n) (up_to-same most other (number / 2) (omega arith) (omega arith)) ∙ sym (up_to-some other number some)
  | inr none ↦
      let is : number ≡ 0 = omega arith in
      rw is (up_to-zero (suc most) ∙ sym (up_to-zero (suc other)))
]

halvings-zero : halvings 0 ≡ 0
unfolding halvings
halvings-zero = up_to-zero 0

pub halvings-some : (number : ℕ) → 0 < number → halvings number ≡ 1 + halvings (number / 2)
unfolding halvings
halvings-some zero some = absurd (omega arith)
halvings-some (suc n) some = up_to-some n (suc n) some ∙ ap (λ k. 1 + k) (up_to-same n (suc n / 2) (suc n / 2) (omega arith) (omega arith))

-- by the number of steps that there may be
mono_up_to : (most v w : ℕ) → w ≤ most → v ≤ w → halvings v ≤ halvings w
mono_up_to zero v w le below =
    let v_is : v ≡ 0 = omega arith in
    let w_is : w ≡ 0 = omega arith in
    rw (v_is, w_is) (omega arith)
mono_up_to (suc most) v w le below = elim (cases_lt 0 v) [
  | inl some ↦
      let rest = mono_up_to most (v / 2) (w / 2) (omega arith) (omega arith) in
      omega (arith, rest, halvings-some v some, halvings-some w (omega arith))
  | inr none ↦
      let v_is : v ≡ 0 = omega arith in
      rw v_is (omega (arith, halvings-zero))
]

-- a number of at most half
pub halvings_fall : (v w : ℕ) → 0 < w → v ≤ w / 2 → halvings v < halvings w
halvings_fall v w some half =
    omega (arith, mono_up_to (w / 2) v (w / 2) (omega arith) half, halvings-some w some)

lt_le : (a b : ℕ) → a < b → a ≤ b
lt_le a b lt = omega arith

mul_swap : (a b c d : ℕ) → (a * b) * (c * d) ≡ (a * c) * (b * d)
mul_swap a b c d = omega arith

power_up_to : (most w : ℕ) → w ≤ most → 0 < w → 2 ^ halvings w ≤ 2 * w
power_up_to zero w le some = absurd (omega arith)
power_up_to (suc most) w le some = elim (cases_lt 0 (w / 2)) [
  | inl more ↦
      let rest = power_up_to most (w / 2) (omega arith) more in
      omega (arith, rest, ap (λ n. 2 ^ n) (halvings-some w some), pow-add 2 1 (halvings (w / 2)))
  | inr last ↦
      let none : w / 2 ≡ 0 = omega arith in
      let one : halvings w ≡ 1 = halvings-some w some ∙ ap (λ n. 1 + halvings n) none ∙ ap (λ n. 1 + n) halvings-zero in
      omega (arith, ap (λ n. 2 ^ n) one)
]

power_of_halvings : (w : ℕ) → 2 ^ halvings w ≤ 2 * (w + 1)
power_of_halvings w = elim (cases_lt 0 w) [
  | inl some ↦ omega (arith, power_up_to w w (omega arith) some)
  | inr last ↦
      let none : w ≡ 0 = omega arith in
      omega (arith, ap (λ n. 2 ^ n) (ap halvings none ∙ halvings-zero))
]

-- the points of a box are as many as its height needs, but for a factor 2 a range
power_of_height : (bounds : List Bound) → 2 ^ height bounds ≤ 2 ^ length bounds * points_of bounds
power_of_height [] = omega arith
power_of_height (b ∷ rest) =
    let both = mul-le-mul (power_of_halvings (width b)) (power_of_height rest) in
    let split = pow-add 2 (halvings (width b)) (height rest) in
    let one = pow-add 2 1 (length rest) in
    let swap = mul_swap 2 (size_of b) (2 ^ length rest) (points_of rest) in
    let suc_is : suc (length rest) ≡ 1 + length rest = omega arith in
    let power = ap (λ n. 2 ^ n) suc_is in
    let right : 2 ^ suc (length rest) * (size_of b * points_of rest) ≡ 2 * (width b + 1) * (2 ^ length rest * points_of rest) = ap (λ n. n * (size_of b * points_of rest)) (power ∙ one) ∙ sym swap in
    omega (arith, split, right, both)

-- so a box of fewer than 2^64 points in at most 30 variables is low
pub height_small : (bounds : List Bound) → length bounds ≤ 30 → points_of bounds < 2 ^ 64 → height bounds ≤ 128
height_small bounds few points = elim (cases_lt 128 (height bounds)) [
  | inl above ↦
      let most = mul-le-mul (pow-le-pow_right {n = 2} (omega arith) few) (lt_le (points_of bounds) (2 ^ 64) points) in
      absurd (omega (arith, pow_below 128 (height bounds) above, power_of_height bounds, most))
  | inr below ↦ below
]

-- a range put in the place of another
height_set : (bounds : List Bound) (variable : ℕ) (range d : Bound) → variable < length bounds → height (set bounds variable range) + halvings (width (get_or bounds variable d)) ≡ height bounds + halvings (width range)
height_set [] variable range d lt = absurd (omega arith)
height_set (b ∷ bounds) zero range d lt = omega arith
height_set (b ∷ bounds) (suc variable) range d lt = omega (arith, height_set bounds variable range d (omega arith))

-- a range at most half as wide
pub height_falls : (bounds : List Bound) (variable : ℕ) (range d : Bound) → variable < length bounds → 0 < width (get_or bounds variable d) → width range ≤ width (get_or bounds variable d) / 2 → height (set bounds variable range) < height bounds
height_falls bounds variable range d lt some half =
    omega (arith, height_set bounds variable range d lt, halvings_fall (width range) (width (get_or bounds variable d)) some half)
