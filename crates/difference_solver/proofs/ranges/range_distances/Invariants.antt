use Rattle.std.proofs.Common.{◌≡◌, ℕ, ◌<◌, ◌/◌, ◌%◌, get_or, vec_len}
use Rattle.difference_solver.specs.Distance.{no_distance}
use Rattle.difference_solver.specs.Ranges.{range_distance}
use Rattle.difference_solver.proofs.ranges.range_distances.Given as goal

abbrev pub invariant-loop-place : goal.invariant-loop-place
invariant-loop-place l = record {
  count : vec_len l.items ≡ l.place;
  each : (k : ℕ) → k < l.place → get_or l.items.items k no_distance ≡ range_distance l.bounds l.rows (k / l.size) (k % l.size);
}
