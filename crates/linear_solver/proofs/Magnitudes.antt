-- How large the numbers of the numbered rows are, and sums of such numbers.
use Rattle.std.proofs.Common.{◌≡◌, ℕ, suc, ◌+◌, ◌-◌, ◌*◌, ◌/◌, ◌%◌, ◌^◌, ◌<◌, ◌≤◌, ◌==◌, if◌then◌else◌, Bool, true, false, List, [], ◌∷◌, length, get_or, slice_get, All, Option, Some, None, option_map, ℤ, pos, negsuc, ◌+ℤ◌, unsigned_abs, FitsSigned, to_z, of_z, inl, inr, subst, sym, ◌∙◌, refl, arith}
use Rattle.std.proofs.lemmas.Bool.{cases_lt}
use Rattle.std.specs.Int.{w128}
use Rattle.std.proofs.lemmas.Int.{ints, to_z-of_z, fits_signed_from_abs}
use Rattle.std.proofs.lemmas.Option.{get_or_from_slice_get, slice_get_within, slice_get-get_or}
use Rattle.linear_form.specs.declared.form.Term.{Term}
use Rattle.linear_form.specs.declared.form.Row.{Row}
use Rattle.linear_form.specs.declared.form.Bound.{Bound}
use Rattle.linear_form.specs.Sum.{sum_over}
use Rattle.linear_form.specs.System.{IsBound, IsRow, IsSystem}
use Rattle.linear_form.proofs.Sizes.{terms_few}
use Rattle.linear_cert.specs.declared.rows.Column.{Column}
use Rattle.linear_cert.specs.declared.rows.Column.TheVariants.{Variable, RightSide}
use Rattle.linear_cert.specs.Rows.{lower_row, upper_row}
use Rattle.linear_cert.specs.Columns.{entry, value_in}
use Rattle.linear_cert.proofs.Numbered.{numbered_below, numbered_past}
use Rattle.linear_solver.specs.Elimination.{number_in}

-- a sum of numbers of limited size
pub sum_over_small : {X : Type 0} (f : X → ℤ) (xs : List X) (most : ℕ) → All (λ x. unsigned_abs (f x) ≤ most) xs → unsigned_abs (sum_over f xs) ≤ length xs * most
sum_over_small f [] most small = omega (arith, ints)
sum_over_small f (x ∷ xs) most small =
    let first = small 0 x (omega arith) in
    let rest = sum_over_small f xs most (λ k d lt. small (suc k) d (omega arith)) in
    omega (arith, ints, first, rest)

picked_small : (same : Bool) (c : ℤ) (most : ℕ) → unsigned_abs c ≤ most → unsigned_abs (if same then c else pos 0) ≤ most
picked_small true c most small = small
picked_small false c most small = omega (arith, ints)

-- what a row has in a column
row_small : (variables : ℕ) (row : Row) (column : Column) → variables ≤ 30 → IsRow variables row → unsigned_abs (entry column row) ≤ 2 ^ 62
row_small variables row (Variable k) few is =
    let each = λ (j : ℕ) (d : Term) (lt : j < length row.terms). picked_small ((get_or row.terms j d).var == k) (get_or row.terms j d).coef (2 ^ 42) (is.terms j d lt).small in
    omega (arith, terms_few variables row is, sum_over_small (λ (term : Term). if term.var == k then term.coef else pos 0) row.terms (2 ^ 42) each)
row_small variables row RightSide few is = is.bound

range_small : (lower : Bool) (variable : ℕ) (range : Option Bound) (column : Column) → ((b : Bound) → range ≡ Some b → IsBound b) → unsigned_abs (value_in (entry column) (option_map (if lower then lower_row variable else upper_row variable) range)) ≤ 2 ^ 41
range_small lower variable None column is = omega (arith, ints)
range_small true variable (Some b) (Variable k) is = omega (arith, ints, picked_small (variable == k) (negsuc 0) 1 (omega (arith, ints)))
range_small true variable (Some b) RightSide is = let bound = is b refl in omega (arith, ints, bound.low)
range_small false variable (Some b) (Variable k) is = omega (arith, ints, picked_small (variable == k) (pos 1) 1 (omega (arith, ints)))
range_small false variable (Some b) RightSide is = let bound = is b refl in bound.high

-- what a numbered row has in a column
pub number_small : (bounds : List Bound) (rows : List Row) → IsSystem (record { bounds = bounds; rows = rows }) → (column : Column) (number : ℕ) → unsigned_abs (number_in column bounds rows number) ≤ 2 ^ 62
number_small bounds rows is column number = elim (cases_lt number (length rows)) [
  | inl below ↦
      let d : Row = record { terms = []; bound = pos 0 } in
      let found = numbered_below bounds rows number below ∙ slice_get-get_or rows number d below in
      subst (λ (row : Option Row). unsigned_abs (value_in (entry column) row) ≤ 2 ^ 62) (sym found) (row_small (length bounds) (get_or rows number d) column is.few_variables (is.rows_fit number d below))
  | inr past ↦
      let place = number - length rows in
      let bound = λ (b : Bound) (found : slice_get bounds (place / 2) ≡ Some b). subst IsBound (get_or_from_slice_get bounds (place / 2) b b found) (is.bounds_fit (place / 2) b (slice_get_within bounds (place / 2) b found)) in
      let small = range_small (place % 2 == 0) (place / 2) (slice_get bounds (place / 2)) column bound in
      let fits : unsigned_abs (value_in (entry column) (option_map (if place % 2 == 0 then lower_row (place / 2) else upper_row (place / 2)) (slice_get bounds (place / 2)))) ≤ 2 ^ 62 = omega (arith, small) in
      subst (λ (row : Option Row). unsigned_abs (value_in (entry column) row) ≤ 2 ^ 62) (sym (numbered_past bounds rows number past)) fits
]

-- one more term's end in a sum of i of them
pub ends_more : (s p : ℤ) (i : ℕ) → unsigned_abs s ≤ i * 2 ^ 83 → unsigned_abs p ≤ 2 ^ 83 → unsigned_abs (s +ℤ p) ≤ (i + 1) * 2 ^ 83
ends_more s p i h k = omega (arith, ints)

-- thirty of them fit
pub ends_fit : (s : ℤ) (i : ℕ) → i ≤ 30 → unsigned_abs s ≤ i * 2 ^ 83 → FitsSigned w128 s
ends_fit s i le h = fits_signed_from_abs w128 s (omega arith)

-- a sum comes back from its bits as it was
pub ends_stored : (s p : ℤ) → FitsSigned w128 p → FitsSigned w128 (s +ℤ p) → to_z w128 (of_z w128 (s +ℤ to_z w128 (of_z w128 p))) ≡ s +ℤ p
ends_stored s p fits sum_fits = rw (to_z-of_z w128 p fits) (to_z-of_z w128 (s +ℤ p) sum_fits)
