use Rattle.std.proofs.Common.{◌≡◌, ◌++◌, take}
use Rattle.linear_solver.specs.Elimination.{sums_with}
use Rattle.linear_solver.specs.Shapes.{IsList}
use Rattle.linear_solver.proofs.elimination.with_sums.Given as goal

abbrev pub invariant-loop-q : goal.invariant-loop-q
invariant-loop-q l = record {
  front : l.sums.items ≡ l.initial.sums.items ++ sums_with l.variable (take l.q-index l.list) l.p;
  list : IsList l.shape l.sums.items;
}
