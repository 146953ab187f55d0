use Rattle.std.proofs.Common.{◌≡◌, map, vec_len}
use Rattle.std.specs.List.{range_with_len}
use Rattle.linear_solver.specs.Elimination.{once}
use Rattle.linear_solver.proofs.first.once.Given as goal

abbrev pub invariant-loop-other : goal.invariant-loop-other
invariant-loop-other l = record {
  front : l.mults.items ≡ map (once l.number) (range_with_len 0 l.other);
  len : vec_len l.mults ≡ l.other;
}
