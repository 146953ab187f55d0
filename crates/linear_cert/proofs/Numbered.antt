-- The rows past those of the system, by number: two for each variable.
use Rattle.std.proofs.Common.{◌≡◌, ◌≢◌, ℕ, ◌-◌, ◌*◌, ◌/◌, ◌%◌, ◌<◌, ◌≤◌, List, length, get_or, Some, nat_lt, true, false, slice_get, refl, arith}
use Rattle.std.proofs.lemmas.Bool.Decides.{nat_tests}
use Rattle.std.proofs.lemmas.Option.{slice_get-get_or}
use Rattle.linear_form.specs.declared.form.Row.{Row}
use Rattle.linear_form.specs.declared.form.Bound.{Bound}
use Rattle.linear_cert.specs.Rows.{lower_row, upper_row, numbered_row, range_row}

-- an even place has a lower row
pub lower_at : (bounds : List Bound) (place : ℕ) (d : Bound) → place < 2 * length bounds → place % 2 ≡ 0 → range_row bounds place ≡ Some (lower_row (place / 2) (get_or bounds (place / 2) d))
lower_at bounds place d lt even =
    let found = slice_get-get_or bounds (place / 2) d (omega arith) in
    rw (even, found) refl

-- an odd place has an upper row
pub upper_at : (bounds : List Bound) (place : ℕ) (d : Bound) → place < 2 * length bounds → place % 2 ≢ 0 → range_row bounds place ≡ Some (upper_row (place / 2) (get_or bounds (place / 2) d))
upper_at bounds place d lt odd =
    let found = slice_get-get_or bounds (place / 2) d (omega arith) in
    let one : place % 2 ≡ 1 = omega arith in
    rw (one, found) refl

-- a number below the count of the system's rows names one of them
pub numbered_below : (bounds : List Bound) (rows : List Row) (number : ℕ) → number < length rows → numbered_row bounds rows number ≡ slice_get rows number
numbered_below bounds rows number lt =
    let below : nat_lt number (length rows) ≡ true = grind (arith, nat_tests) in
    rw below refl

-- a number past the system's rows names a row of a range
pub numbered_past : (bounds : List Bound) (rows : List Row) (number : ℕ) → length rows ≤ number → numbered_row bounds rows number ≡ range_row bounds (number - length rows)
numbered_past bounds rows number le =
    let past : nat_lt number (length rows) ≡ false = grind (arith, nat_tests) in
    rw past refl
