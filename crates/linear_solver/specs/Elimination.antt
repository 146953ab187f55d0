-- Elimination of one variable after another (Fourier and Motzkin). Each row keeps how it is a sum of the numbered
-- rows, those of the system and two for each range.
use Rattle.std.specs.Prelude.{◌≡◌, ℕ, zero, suc, ◌+◌, ◌*◌, ◌/◌, ◌≤◌, ◌<◌, ◌==◌, ◌&&◌, if◌then◌else◌, Bool, true, List}
use Rattle.std.specs.Prelude.{[], ◌∷◌, ◌++◌, length, map, filter, flat_map, slice_index_or, All, ℤ, pos, ◌+ℤ◌, ◌*ℤ◌}
use Rattle.std.specs.Prelude.{◌<ℤ◌, int_le, int_lt, unsigned_abs}
use Rattle.std.specs.List.{list_all, range_with_len}
use Rattle.linear_form.specs.declared.form.Row.{Row}
use Rattle.linear_form.specs.declared.form.Bound.{Bound}
use Rattle.linear_form.specs.Difference.{IsDifference}
use Rattle.linear_form.specs.Points.{points_of}
use Rattle.linear_cert.specs.declared.rows.Column.{Column}
use Rattle.linear_cert.specs.declared.rows.Column.TheVariants.{Variable, RightSide}
use Rattle.linear_cert.specs.Rows.{numbered_row}
use Rattle.linear_cert.specs.Columns.{entry, value_in}
use Rattle.linear_solver.specs.declared.factors.TheConstants.{MAX_NUMBER}
use Rattle.linear_solver.specs.declared.derived.TheConstants.{MAX_DERIVED, MAX_MULTIPLIER}
use Rattle.linear_solver.specs.declared.derived.Derived.{Derived}
use Rattle.sched_base.specs.declared.limits.TheConstants.{CHECK_BUDGET}
use Rattle.linear_solver.specs.Sums.{IsAtMost, added, gcd}

-- how many rows have a number: those of the system, and two for each variable
abbrev pub numbered_count : List Bound → List Row → ℕ
numbered_count bounds rows = length rows + 2 * length bounds

-- what the row with this number has in a column, 0 where there is none
abbrev pub number_in : Column → List Bound → List Row → ℕ → ℤ
number_in column bounds rows number = value_in (entry column) (numbered_row bounds rows number)

-- the multipliers of a row that is one numbered row: 1 for itself
abbrev pub once : ℕ → ℕ → ℤ
once number other = if other == number then pos 1 else pos 0

-- the coefficients that the row with this number gives to the variables
abbrev pub coefs_in : List Bound → List Row → ℕ → List ℤ
coefs_in bounds rows number =
    map (λ variable. number_in (Variable variable) bounds rows number) (range_with_len 0 (length bounds))

-- the row with this number as it stands before any elimination
abbrev pub first_row : List Bound → List Row → ℕ → Derived
first_row bounds rows number = record {
  coefs = coefs_in bounds rows number;
  bound = number_in RightSide bounds rows number;
  mults = map (once number) (range_with_len 0 (numbered_count bounds rows));
}

-- all of them, in the order of their numbers
abbrev pub first_list : List Bound → List Row → List Derived
first_list bounds rows = map (first_row bounds rows) (range_with_len 0 (numbered_count bounds rows))

-- two rows times factors, added up, and their multipliers in the same way
abbrev pub sum_of : ℕ → ℕ → Derived → Derived → Derived
sum_of x y p q = record {
  coefs = added x y p.coefs q.coefs;
  bound = p.bound *ℤ pos x +ℤ q.bound *ℤ pos y;
  mults = added x y p.mults q.mults;
}

-- the coefficient of a variable
abbrev pub coef_of : ℕ → Derived → ℤ
coef_of variable row = slice_index_or row.coefs variable (pos 0)

-- two rows with coefficients a and -b of the variable, added up so that it goes: b/g times the first, a/g times the
-- other, g being the greatest common divisor
abbrev pub sum_without : ℕ → Derived → Derived → Derived
sum_without variable p q =
    let a = unsigned_abs (coef_of variable p) in
    let b = unsigned_abs (coef_of variable q) in
    sum_of (b / gcd a b) (a / gcd a b) p q

-- no variable has a coefficient but 0
abbrev pub has_no_term : List ℤ → Bool
has_no_term coefs = list_all (λ coef. unsigned_abs coef == 0) coefs

-- a sum is left out if it says no more than that 0 is at most some number
abbrev pub kept : Derived → List Derived
kept row = if int_le (pos 0) row.bound && has_no_term row.coefs then [] else row ∷ []

-- the sum of a row in which the variable is positive with one in which it is negative, none for another one
abbrev pub sums_of_pair : ℕ → Derived → Derived → List Derived
sums_of_pair variable p q = if int_lt (coef_of variable q) (pos 0) then kept (sum_without variable p q) else []

-- its sums with all of those, in order
abbrev pub sums_with : ℕ → List Derived → Derived → List Derived
sums_with variable list p = flat_map (sums_of_pair variable p) list

-- the same, and none for a row in which the variable isn't positive
abbrev pub sums_of : ℕ → List Derived → Derived → List Derived
sums_of variable list p = if int_lt (pos 0) (coef_of variable p) then sums_with variable list p else []

-- the sums of all rows, in order
abbrev pub sums_in : ℕ → List Derived → List Derived
sums_in variable list = flat_map (sums_of variable list) list

-- the variable doesn't occur
abbrev pub lacks : ℕ → Derived → Bool
lacks variable row = unsigned_abs (coef_of variable row) == 0

-- the list without the variable: first the rows that lack it, then the sums
abbrev pub next_list : ℕ → List Derived → List Derived
next_list variable list = filter (lacks variable) list ++ sums_in variable list

-- the list once so many variables are eliminated, the first ones first
unfoldable pub list_after : List Bound → List Row → ℕ → List Derived
list_after bounds rows zero = first_list bounds rows
list_after bounds rows (suc variable) = next_list variable (list_after bounds rows variable)

-- the numbers of a row are in range
pub record IsSmall (row : Derived) : Type 0 where
  pub coefs : All (IsAtMost MAX_NUMBER) row.coefs
  pub bound : IsAtMost MAX_NUMBER row.bound
  pub mults : All (IsAtMost MAX_MULTIPLIER) row.mults

-- a list that elimination goes on with: it isn't too long, and its numbers are in range
pub record IsWithinSizes (list : List Derived) : Type 0 where
  pub few : length list ≤ MAX_DERIVED
  pub small : All IsSmall list

-- the row says that 0 is at most a negative number
abbrev pub IsContradiction : Derived → Type 0
IsContradiction row = (has_no_term row.coefs ≡ true) × (row.bound <ℤ pos 0)

-- no row of the list does
abbrev pub HasNoContradiction : List Derived → Type 0
HasNoContradiction list = All (λ row. IsContradiction row → ⊥) list

-- Some list has a contradiction, and no list up to it passes a size.
pub record IsRefutedByElimination (bounds : List Bound) (rows : List Row) : Type 0 where
  pub eliminated : ℕ
  pub known : eliminated ≤ length bounds
  pub refutes : HasNoContradiction (list_after bounds rows eliminated) → ⊥
  pub sizes : (k : ℕ) → k ≤ eliminated → IsWithinSizes (list_after bounds rows k)

-- elimination finds no such list
abbrev pub IsUnrefuted : List Bound → List Row → Type 0
IsUnrefuted bounds rows = IsRefutedByElimination bounds rows → ⊥

-- What the checker may leave undecided: a system with more points than its budget and a row that is no difference,
-- which elimination doesn't refute.
pub record IsOpen (bounds : List Bound) (rows : List Row) : Type 0 where
  pub many : CHECK_BUDGET < points_of bounds
  pub no_differences : IsDifference rows → ⊥
  pub unrefuted : IsUnrefuted bounds rows
