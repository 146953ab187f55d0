use Rattle.std.proofs.Common.{◌≡◌, if◌then◌else◌, [], int_lt, pos, take}
use Rattle.std.specs.List.{flat_map}
use Rattle.linear_solver.specs.Elimination.{coef_of, sums_with}
use Rattle.linear_solver.specs.Shapes.{IsList}
use Rattle.linear_solver.proofs.elimination.sums_in.Given as goal

abbrev pub invariant-loop-p : goal.invariant-loop-p
invariant-loop-p l = record {
  front : l.sums.items ≡ flat_map (λ p. if int_lt (pos 0) (coef_of l.variable p) then sums_with l.variable l.list p else []) (take l.p-index l.list);
  list : IsList l.shape l.sums.items;
}
