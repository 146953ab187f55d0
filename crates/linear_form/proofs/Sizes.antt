-- Why the value of a row's left side fits 128 bits.
use Rattle.std.proofs.Common.{◌≡◌, ℕ, ◌+◌, ◌*◌, ◌^◌, ◌<◌, ◌≤◌, length, map, ℤ, ◌+ℤ◌, ◌*ℤ◌, unsigned_abs, FitsSigned, to_z, of_z, arith, mul-le-mul}
use Rattle.std.specs.Int.{w64, w128}
use Rattle.std.proofs.lemmas.Int.{ints, to_z-of_z, unsigned_abs-mul, fits_signed_from_abs}
use Rattle.std.proofs.lemmas.List.{length-map}
use Rattle.std.proofs.lemmas.List.Elements.{All-map, All-weaker}
use Rattle.std.proofs.lemmas.Map.Keys.{sorted_from_strictly_increasing}
use Rattle.std.proofs.lemmas.Map.Views.{length-le_from_below}
use Rattle.linear_form.specs.declared.form.Term.{Term}
use Rattle.linear_form.specs.declared.form.Row.{Row}
use Rattle.linear_form.specs.System.{IsRow, IsTerm}

-- a coefficient in range times a number of 64 bits
pub product_small : (a b : ℤ) → unsigned_abs a ≤ 2 ^ 42 → FitsSigned w64 b → unsigned_abs (a *ℤ b) ≤ 2 ^ 105
product_small a b h f =
    let k : unsigned_abs b ≤ 2 ^ 63 = omega (arith, ints) in
    rw (unsigned_abs-mul a b) (mul-le-mul h k)

-- one more such product in a sum of i of them
pub sum_small : (s p : ℤ) (i : ℕ) → unsigned_abs s ≤ i * 2 ^ 105 → unsigned_abs p ≤ 2 ^ 105 → unsigned_abs (s +ℤ p) ≤ (i + 1) * 2 ^ 105
sum_small s p i h k = omega (arith, ints)

-- a sum comes back from its bits as it was
pub sum_stored : (s p : ℤ) → FitsSigned w128 p → FitsSigned w128 (s +ℤ p) → to_z w128 (of_z w128 (s +ℤ to_z w128 (of_z w128 p))) ≡ s +ℤ p
sum_stored s p fits sum_fits = rw (to_z-of_z w128 p fits) (to_z-of_z w128 (s +ℤ p) sum_fits)

-- thirty of them fit
pub sum_fits : (s : ℤ) (i : ℕ) → i ≤ 30 → unsigned_abs s ≤ i * 2 ^ 105 → FitsSigned w128 s
sum_fits s i le h = fits_signed_from_abs w128 s (omega arith)

abbrev var_of : Term → ℕ
var_of term = term.var

-- a row has at most one term a variable
pub terms_few : (variables : ℕ) (row : Row) → IsRow variables row → length row.terms ≤ variables
terms_few variables row h =
    let known = All-map (λ x. x < variables) var_of row.terms (All-weaker (IsTerm variables) (λ t. t.var < variables) (λ t i. i.known) row.terms h.terms) in
    omega (arith, length-le_from_below variables (map var_of row.terms) (sorted_from_strictly_increasing _ h.rising) known, length-map row.terms var_of)
