-- What a distance means: its rows add up to one variable minus another, and its bound. The zero is no variable.
use Rattle.std.specs.Prelude.{◌≡◌, ℕ, ◌<◌, ◌≤◌, ◌==◌, if◌then◌else◌, List, length, All, ℤ, pos, ◌+ℤ◌, ◌≤ℤ◌}
use Rattle.linear_form.specs.declared.form.Bound.{Bound}
use Rattle.linear_form.specs.declared.form.Row.{Row}
use Rattle.linear_form.specs.declared.form.Term.{Term}
use Rattle.linear_form.specs.Solution.{left_side, value_at}
use Rattle.linear_cert.specs.declared.cert.Mult.{Mult}
use Rattle.linear_cert.specs.declared.rows.Column.TheVariants.{Variable, RightSide}
use Rattle.linear_cert.specs.Rows.{NamesRow}
use Rattle.linear_cert.specs.Columns.{coefficient, column_sum}
use Rattle.difference_solver.specs.declared.distance.Distance.{Distance}
use Rattle.difference_solver.specs.Distances.{Table, between}

-- 1 for the variable that the node is, 0 for another
abbrev pub unit : ℕ → ℕ → ℤ
unit node variable = if node == variable then pos 1 else pos 0

-- the row is taken once
abbrev pub IsOnce : Mult → Type 0
IsOnce mult = mult.by ≡ 1

-- the rows that are named add up to the first node minus the second, at most the bound
pub record IsDistance (bounds : List Bound) (rows : List Row) (from to : ℕ) (distance : Distance) : Type 0 where
  pub named : All (NamesRow bounds rows) distance.mults
  pub once : All IsOnce distance.mults
  pub columns : (v : ℕ) → v < length bounds → column_sum (Variable v) bounds rows distance.mults +ℤ unit to v
      ≡ unit from v
  pub right : column_sum RightSide bounds rows distance.mults ≡ distance.bound

-- terms over so many variables are the first node minus the second
pub record IsEdge (variables : ℕ) (terms : List Term) (from to : ℕ) : Type 0 where
  pub from_known : from ≤ variables
  pub to_known : to ≤ variables
  pub columns : (v : ℕ) → v < variables → coefficient v terms +ℤ unit to v ≡ unit from v
  pub value : (point : List ℤ) → length point ≡ variables →
      left_side point terms +ℤ value_at point to ≡ value_at point from

-- the table keeps the row: its nodes are no farther apart than the row says
pub record Keeps (variables : ℕ) (table : Table) (row : Row) : Type 0 where
  pub from : ℕ
  pub to : ℕ
  pub edge : IsEdge variables row.terms from to
  pub kept : (between table from to).bound ≤ℤ row.bound
