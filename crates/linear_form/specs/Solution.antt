-- What solves a system: the one meaning of bounds and rows. Values are whole numbers of any size.
use Rattle.std.specs.Prelude.{◌≡◌, ℕ, ◌<◌, List, length, slice_index_or, All, ℤ, pos, ◌*ℤ◌, ◌≤ℤ◌}
use Rattle.linear_form.specs.declared.form.Term.{Term}
use Rattle.linear_form.specs.declared.form.Row.{Row}
use Rattle.linear_form.specs.declared.form.Bound.{Bound}
use Rattle.linear_form.specs.Sum.{sum_over}

-- the value that a point gives to a variable, and 0 to one that it doesn't have
abbrev pub value_at : List ℤ → ℕ → ℤ
value_at point variable = slice_index_or point variable (pos 0)

-- the coefficient times the variable's value
abbrev pub term_value : List ℤ → Term → ℤ
term_value point term = term.coef *ℤ value_at point term.var

-- the sum of the terms' values
abbrev pub left_side : List ℤ → List Term → ℤ
left_side point terms = sum_over (term_value point) terms

-- the left side is at most the bound
abbrev pub RowHolds : List ℤ → Row → Type 0
RowHolds point row = left_side point row.terms ≤ℤ row.bound

-- the value lies in the range
abbrev pub IsWithin : Bound → ℤ → Type 0
IsWithin bound value = (bound.lo ≤ℤ value) × (value ≤ℤ bound.hi)

-- each variable's value lies in its range
abbrev pub LiesWithin : List Bound → List ℤ → Type 0
LiesWithin bounds point =
    (k : ℕ) (d : Bound) → k < length bounds → IsWithin (slice_index_or bounds k d) (value_at point k)

-- the point has one value for each variable, and every bound and every row holds
pub record Solves (bounds : List Bound) (rows : List Row) (point : List ℤ) : Type 0 where
  pub one_each : length point ≡ length bounds
  pub within : LiesWithin bounds point
  pub rows_hold : All (RowHolds point) rows

-- no list of whole numbers solves the system
abbrev pub HasNoSolution : List Bound → List Row → Type 0
HasNoSolution bounds rows = (point : List ℤ) → Solves bounds rows point → ⊥
