-- One step of Floyd and Warshall: each distance becomes the one over a node in the middle, where that is less.
use Rattle.std.specs.Prelude.{◌≡◌, ℕ, ◌<◌, ◌≤◌, ◌^◌, ◌==◌, ◌||◌, if◌then◌else◌, length, ◌+ℤ◌, int_lt, unsigned_abs}
use Rattle.difference_solver.specs.declared.distance.Distance.{Distance}
use Rattle.difference_solver.specs.Distance.{joined}
use Rattle.difference_solver.specs.Distances.{Table, between}

-- the distance over a node in the middle, where that is less
abbrev pub shorter : Distance → Distance → Distance → Distance
shorter first second distance =
    if int_lt (first.bound +ℤ second.bound) distance.bound then joined first second else distance

-- the distance from one node to another behind the step
abbrev pub passed : ℕ → Table → ℕ → ℕ → Distance
passed middle table from to =
    if from == middle || to == middle then between table from to
    else shorter (between table from middle) (between table middle to) (between table from to)

-- the step on the distances from one node
pub record PassesFrom (from middle : ℕ) (old new : Table) : Type 0 where
  pub size : new.size ≡ old.size
  pub here : (j : ℕ) → j < old.size → between new from j ≡ passed middle old from j
  pub others : (i j : ℕ) → i < old.size → j < old.size → (i ≡ from → ⊥) → between new i j ≡ between old i j

-- the step on all distances
pub record Passes (middle : ℕ) (old new : Table) : Type 0 where
  pub size : new.size ≡ old.size
  pub each : (i j : ℕ) → i < old.size → j < old.size → between new i j ≡ passed middle old i j

-- a distance whose sum with such another fits
pub record IsSmall (distance : Distance) : Type 0 where
  pub short : length distance.mults ≤ 2 ^ 30
  pub low : unsigned_abs distance.bound ≤ 2 ^ 92

-- each distance to the node and from it is
abbrev pub AreSmall : ℕ → Table → Type 0
AreSmall middle table =
    (k : ℕ) → k < table.size → IsSmall (between table k middle) × IsSmall (between table middle k)
