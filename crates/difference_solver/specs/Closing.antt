-- What holds of the table of distances while it is closed, node by node. It serves the code alone.
use Rattle.std.specs.Prelude.{◌≡◌, ℕ, ◌+◌, ◌^◌, ◌<◌, ◌≤◌, max, List, length, All, Option, Some, None, pos, ◌+ℤ◌, ◌≤ℤ◌}
use Rattle.std.specs.Prelude.{◌<ℤ◌, neg_ℤ}
use Rattle.linear_form.specs.declared.form.Bound.{Bound}
use Rattle.linear_form.specs.declared.form.Row.{Row}
use Rattle.linear_cert.specs.Right.{range_of}
use Rattle.difference_solver.specs.Distances.{Table, between}
use Rattle.difference_solver.specs.Meaning.{IsDistance, Keeps}

-- the distances come from rows, and are at most what the ranges and the rows say
pub record IsState (bounds : List Bound) (rows : List Row) (table : Table) : Type 0 where
  pub size : table.size ≡ length bounds + 1
  pub distances : (i j : ℕ) → i < table.size → j < table.size → IsDistance bounds rows i j (between table i j)
  pub upper : (v : ℕ) → v < length bounds → (between table v (length bounds)).bound ≤ℤ (range_of bounds v).hi
  pub lower : (v : ℕ) → v < length bounds → (between table (length bounds) v).bound ≤ℤ neg_ℤ (range_of bounds v).lo
  pub zero : (between table (length bounds) (length bounds)).bound ≤ℤ pos 0
  pub kept : All (Keeps (length bounds) table) rows

-- behind so many steps, of which the first goes over the zero, the distances come from few rows
pub record IsShortBehind (steps zero : ℕ) (table : Table) : Type 0 where
  pub each : (i j : ℕ) → i < table.size → j < table.size → length (between table i j).mults ≤ max 2 (2 ^ steps)
  pub first : steps ≡ 0 → (k : ℕ) → k < table.size →
      (length (between table k zero).mults ≤ 1) × (length (between table zero k).mults ≤ 1)

-- no distance is more than the one over this node
abbrev pub IsClosedAt : ℕ → Table → Type 0
IsClosedAt middle table =
    (i j : ℕ) → i < table.size → j < table.size →
    (between table i j).bound ≤ℤ ((between table i middle).bound +ℤ (between table middle j).bound)

-- the node lies below itself
abbrev pub IsBelowItself : Table → ℕ → Type 0
IsBelowItself table node = (node < table.size) × ((between table node node).bound <ℤ pos 0)

-- no node does, and the table is closed at all
pub record IsClosed (table : Table) : Type 0 where
  pub settled : (k : ℕ) → k < table.size → pos 0 ≤ℤ (between table k k).bound
  pub at_each : (m : ℕ) → m < table.size → IsClosedAt m table

-- the answer that there is no node below itself, or that this one is
abbrev pub IsAnswer : ℕ → Table → Option ℕ → Type 0
IsAnswer origin table None = IsClosed table
IsAnswer origin table (Some node) = IsBelowItself table node × (length (between table node node).mults ≤ 2 ^ 31)
