use Rattle.std.proofs.Common.{◌≡◌, take, vec_len}
use Rattle.linear_solver.specs.Boxes.{low_ends}
use Rattle.linear_solver.proofs.ends.low_ends.Given as goal

abbrev pub invariant-loop-range : goal.invariant-loop-range
invariant-loop-range l = record {
  front : l.vals.items ≡ low_ends (take l.range-index l.bounds);
  len : vec_len l.vals ≡ l.range-index;
}
