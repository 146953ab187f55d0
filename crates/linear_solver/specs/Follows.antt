-- Rows that are sums of the numbered rows. Nobody who believes the contract of the decider needs these words.
use Rattle.std.specs.Prelude.{◌≡◌, ℕ, suc, ◌<◌, List, [], ◌∷◌, length, All, ℤ, pos, ◌+ℤ◌, ◌*ℤ◌, ◌≤ℤ◌}
use Rattle.linear_form.specs.declared.form.Row.{Row}
use Rattle.linear_form.specs.declared.form.Bound.{Bound}
use Rattle.linear_cert.specs.declared.rows.Column.{Column}
use Rattle.linear_cert.specs.declared.rows.Column.TheVariants.{Variable, RightSide}
use Rattle.linear_solver.specs.declared.derived.Derived.{Derived}
use Rattle.linear_solver.specs.Elimination.{coef_of, number_in, numbered_count}
use Rattle.linear_solver.specs.Shapes.{HasShape, shape_of}

-- the sum that the numbered rows from this number on, times multipliers, have in a column
abbrev pub weighted : List Bound → List Row → Column → ℕ → List ℤ → ℤ
weighted bounds rows column number [] = pos 0
weighted bounds rows column number (m ∷ mults) =
    m *ℤ number_in column bounds rows number +ℤ weighted bounds rows column (suc number) mults

-- the row is the sum of the numbered rows, times its multipliers
pub record Follows (bounds : List Bound) (rows : List Row) (row : Derived) : Type 0 where
  pub coefs_len : length row.coefs ≡ length bounds
  pub mults_len : length row.mults ≡ numbered_count bounds rows
  pub positive : All (λ (m : ℤ). pos 0 ≤ℤ m) row.mults
  pub coefs : (v : ℕ) → v < length bounds → coef_of v row ≡ weighted bounds rows (Variable v) 0 row.mults
  pub bound : row.bound ≡ weighted bounds rows RightSide 0 row.mults

-- it is such a sum, with its numbers in range
pub record IsSumRow (bounds : List Bound) (rows : List Row) (row : Derived) : Type 0 where
  pub in_range : HasShape (shape_of bounds rows) row
  pub follows : Follows bounds rows row
