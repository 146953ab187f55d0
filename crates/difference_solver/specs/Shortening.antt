-- What the rows of the system do to the table of distances.
use Rattle.std.specs.Prelude.{◌≡◌, ℕ, ◌<◌, ◌≤◌, List, length, ◌≤ℤ◌}
use Rattle.linear_form.specs.declared.form.Bound.{Bound}
use Rattle.linear_form.specs.declared.form.Row.{Row}
use Rattle.difference_solver.specs.Distances.{Table, between}
use Rattle.difference_solver.specs.Meaning.{IsDistance}

-- a distance is as it was, or less and that of one row
pub record Shortens (bounds : List Bound) (rows : List Row) (old new : Table) : Type 0 where
  pub size : new.size ≡ old.size
  pub less : (i j : ℕ) → i < old.size → j < old.size → (between new i j).bound ≤ℤ (between old i j).bound
  pub distances : (i j : ℕ) → i < old.size → j < old.size →
      IsDistance bounds rows i j (between old i j) → IsDistance bounds rows i j (between new i j)
  pub short : (i j limit : ℕ) → i < old.size → j < old.size → 0 < limit →
      length (between old i j).mults ≤ limit → length (between new i j).mults ≤ limit
