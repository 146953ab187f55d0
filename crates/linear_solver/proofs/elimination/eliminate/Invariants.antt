use Rattle.std.proofs.Common.{◌≡◌, ℕ, ◌<◌}
use Rattle.linear_solver.specs.Elimination.{HasNoContradiction, list_after}
use Rattle.linear_solver.specs.Shapes.{IsList}
use Rattle.linear_solver.proofs.elimination.eliminate.Given as goal

abbrev pub invariant-loop-variable : goal.invariant-loop-variable
invariant-loop-variable l = record {
  lists : l.list.items ≡ list_after l.bounds l.rows l.variable;
  is_list : IsList l.shape l.list.items;
  so_far : (k : ℕ) → k < l.variable → HasNoContradiction (list_after l.bounds l.rows k);
}
