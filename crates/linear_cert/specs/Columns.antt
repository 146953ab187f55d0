-- A column of rows: the coefficients of one variable, or the bounds. What multipliers make of it is a sum of whole
-- numbers.
use Rattle.std.specs.Prelude.{ℕ, ◌≤◌, ◌==◌, if◌then◌else◌, List, length, take, Option, Some, None, ℤ, pos, ◌*ℤ◌}
use Rattle.std.specs.Prelude.{FitsSigned}
use Rattle.std.specs.Int.{w128}
use Rattle.linear_form.specs.declared.form.Term.{Term}
use Rattle.linear_form.specs.declared.form.Row.{Row}
use Rattle.linear_form.specs.declared.form.Bound.{Bound}
use Rattle.linear_form.specs.Sum.{sum_over}
use Rattle.linear_cert.specs.declared.cert.Mult.{Mult}
use Rattle.linear_cert.specs.declared.rows.Column.{Column}
use Rattle.linear_cert.specs.declared.rows.Column.TheVariants.{Variable, RightSide}
use Rattle.linear_cert.specs.Rows.{numbered_row}

-- the coefficient that terms give to a variable, 0 where it doesn't occur
abbrev pub coefficient : ℕ → List Term → ℤ
coefficient variable terms = sum_over (λ (term : Term). if term.var == variable then term.coef else pos 0) terms

-- what a row has in a column
abbrev pub entry : Column → Row → ℤ
entry (Variable variable) row = coefficient variable row.terms
entry RightSide row = row.bound

-- a number that the row has, 0 where no row is
abbrev pub value_in : (Row → ℤ) → Option Row → ℤ
value_in value None = pos 0
value_in value (Some row) = value row

-- the number that the named row has, times the multiplier
abbrev pub times : (Row → ℤ) → List Bound → List Row → Mult → ℤ
times value bounds rows mult = value_in value (numbered_row bounds rows mult.row) *ℤ pos mult.by

-- the sum that the named rows, times their multipliers, have in a column
abbrev pub column_sum : Column → List Bound → List Row → List Mult → ℤ
column_sum column bounds rows mults = sum_over (times (entry column) bounds rows) mults

-- each partial sum, in the order of the list, is a signed number of 128 bits
abbrev pub PartialSumsFit : Column → List Bound → List Row → List Mult → Type 0
PartialSumsFit column bounds rows mults =
    (k : ℕ) → k ≤ length mults → FitsSigned w128 (column_sum column bounds rows (take k mults))

-- the partial sums of a column fit, and its sum is such a number
pub record AddsUp (IsSum : ℤ → Type 0) (column : Column) (bounds : List Bound) (rows : List Row)
    (mults : List Mult) : Type 0 where
  pub fits : PartialSumsFit column bounds rows mults
  pub sum : IsSum (column_sum column bounds rows mults)
