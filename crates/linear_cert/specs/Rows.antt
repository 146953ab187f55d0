-- The rows that a certificate names by number: those of the system, and then two for each variable, which say its
-- range.
use Rattle.std.specs.Prelude.{ℕ, ◌+◌, ◌-◌, ◌*◌, ◌/◌, ◌%◌, ◌<◌, ◌==◌, nat_lt, if◌then◌else◌, List, [], ◌∷◌, length}
use Rattle.std.specs.Prelude.{Option, option_map, slice_get, ℤ, pos, negsuc, neg_ℤ}
use Rattle.linear_form.specs.declared.form.Term.{Term}
use Rattle.linear_form.specs.declared.form.Row.{Row}
use Rattle.linear_form.specs.declared.form.Bound.{Bound}
use Rattle.linear_cert.specs.declared.cert.Mult.{Mult}

-- the row of one term
abbrev pub single_row : ℕ → ℤ → ℤ → Row
single_row variable coefficient bound =
    let term : Term = record { var = variable; coef = coefficient } in record { terms = term ∷ []; bound = bound }

-- minus the variable is at most minus its least value
abbrev pub lower_row : ℕ → Bound → Row
lower_row variable range = single_row variable (negsuc 0) (neg_ℤ range.lo)

-- the variable is at most its greatest value
abbrev pub upper_row : ℕ → Bound → Row
upper_row variable range = single_row variable (pos 1) range.hi

-- of the rows that say ranges, the one in this place: an even place has a lower row, an odd one an upper row
abbrev pub range_row : List Bound → ℕ → Option Row
range_row bounds place =
    option_map (if place % 2 == 0 then lower_row (place / 2) else upper_row (place / 2)) (slice_get bounds (place / 2))

-- the row with this number, if there is one
abbrev pub numbered_row : List Bound → List Row → ℕ → Option Row
numbered_row bounds rows number =
    if nat_lt number (length rows) then slice_get rows number else range_row bounds (number - length rows)

-- the row that the multiplier names exists
abbrev pub NamesRow : List Bound → List Row → Mult → Type 0
NamesRow bounds rows mult = mult.row < length rows + 2 * length bounds
