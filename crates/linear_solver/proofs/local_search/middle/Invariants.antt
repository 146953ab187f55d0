use Rattle.std.proofs.Common.{◌≡◌, map, take, vec_len}
use Rattle.linear_solver.specs.LocalSearch.{middle}
use Rattle.linear_solver.proofs.local_search.middle.Given as goal

abbrev pub invariant-loop-range : goal.invariant-loop-range
invariant-loop-range l = record {
  front : l.values.items ≡ map middle (take l.range-index l.bounds);
  len : vec_len l.values ≡ l.range-index;
}
