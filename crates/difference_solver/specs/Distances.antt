-- A table of distances. Its nodes are the variables by number, and then the zero: its number is the count of variables,
-- and its value is 0.
use Rattle.std.specs.Prelude.{◌≡◌, ℕ, ◌+◌, ◌*◌, ◌<◌, ◌≤◌, List, length, slice_index_or}
use Rattle.sched_base.specs.declared.limits.TheConstants.{MAX_VARIABLES}
use Rattle.difference_solver.specs.declared.distance.Distance.{Distance}
use Rattle.difference_solver.specs.Distance.{no_distance}

-- a distance from each node to each, one row of the table after another
pub record Table : Type 0 where
  pub size : ℕ
  pub items : List Distance

-- the table is square, and not empty
pub record IsTable (table : Table) : Type 0 where
  pub some : 0 < table.size
  pub few : table.size ≤ MAX_VARIABLES + 1
  pub square : length table.items ≡ table.size * table.size

-- the distance from one node to another
abbrev pub between : Table → ℕ → ℕ → Distance
between table from to = slice_index_or table.items (from * table.size + to) no_distance

-- the distance is put in that place, and the others stay
pub record Puts (old new : Table) (from to : ℕ) (distance : Distance) : Type 0 where
  pub size : new.size ≡ old.size
  pub here : between new from to ≡ distance
  pub others : (i j : ℕ) → i < old.size → j < old.size → (i ≡ from → j ≡ to → ⊥) → between new i j ≡ between old i j
