-- The distances that the ranges of the variables give. They serve the code alone.
use Rattle.std.specs.Prelude.{◌≡◌, ℕ, ◌+◌, ◌*◌, ◌<◌, ◌==◌, if◌then◌else◌, List, length, neg_ℤ}
use Rattle.linear_form.specs.declared.form.Bound.{Bound}
use Rattle.linear_cert.specs.Right.{range_of}
use Rattle.difference_solver.specs.declared.distance.Distance.{Distance}
use Rattle.difference_solver.specs.Distance.{no_distance, distance_of_row, joined}
use Rattle.difference_solver.specs.Distances.{Table, between}

-- from a node to the zero: the greatest value
abbrev pub upper_distance : List Bound → ℕ → ℕ → Distance
upper_distance bounds rows node =
    if node == length bounds then no_distance else distance_of_row (rows + 2 * node + 1) (range_of bounds node).hi

-- from the zero to a node: minus the least value
abbrev pub lower_distance : List Bound → ℕ → ℕ → Distance
lower_distance bounds rows node =
    if node == length bounds then no_distance else distance_of_row (rows + 2 * node) (neg_ℤ (range_of bounds node).lo)

-- from one node to another, over the zero
abbrev pub range_distance : List Bound → ℕ → ℕ → ℕ → Distance
range_distance bounds rows from to =
    if from == to then no_distance else joined (upper_distance bounds rows from) (lower_distance bounds rows to)

-- the table has just these
pub record HasRanges (bounds : List Bound) (rows : ℕ) (table : Table) : Type 0 where
  pub size : table.size ≡ length bounds + 1
  pub each : (i j : ℕ) → i < table.size → j < table.size → between table i j ≡ range_distance bounds rows i j
