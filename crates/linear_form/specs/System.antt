-- Which bounds and rows a system may have.
use Rattle.std.specs.Prelude.{ℕ, ◌<◌, ◌≤◌, ◌≢◌, List, length, map, All, pos, ◌≤ℤ◌, unsigned_abs}
use Rattle.std.specs.List.Sorted.{IsStrictlyIncreasing}
use Rattle.sched_base.specs.declared.limits.TheConstants.{MAX_VARIABLES, MAX_ROWS, MAX_END, MAX_ROW_COEFFICIENT}
use Rattle.sched_base.specs.declared.limits.TheConstants.{MAX_ROW_BOUND}
use Rattle.linear_form.specs.declared.form.Term.{Term}
use Rattle.linear_form.specs.declared.form.Row.{Row}
use Rattle.linear_form.specs.declared.form.Bound.{Bound}

-- a system as contracts see it
pub record LinearSystem : Type 0 where
  pub bounds : List Bound
  pub rows : List Row

-- a range that isn't empty, with ends in range
pub record IsBound (bound : Bound) : Type 0 where
  pub ordered : bound.lo ≤ℤ bound.hi
  pub low : unsigned_abs bound.lo ≤ MAX_END
  pub high : unsigned_abs bound.hi ≤ MAX_END

-- a term over so many variables
pub record IsTerm (variables : ℕ) (term : Term) : Type 0 where
  pub known : term.var < variables
  pub nonzero : term.coef ≢ pos 0
  pub small : unsigned_abs term.coef ≤ MAX_ROW_COEFFICIENT

-- a row over so many variables, each in at most one term
pub record IsRow (variables : ℕ) (row : Row) : Type 0 where
  pub rising : IsStrictlyIncreasing (map (λ (term : Term). term.var) row.terms)
  pub terms : All (IsTerm variables) row.terms
  pub bound : unsigned_abs row.bound ≤ MAX_ROW_BOUND

-- the bounds and rows of a system
pub record IsSystem (system : LinearSystem) : Type 0 where
  pub few_variables : length system.bounds ≤ MAX_VARIABLES
  pub few_rows : length system.rows ≤ MAX_ROWS
  pub bounds_fit : All IsBound system.bounds
  pub rows_fit : All (IsRow (length system.bounds)) system.rows
