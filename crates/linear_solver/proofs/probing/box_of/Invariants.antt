use Rattle.std.proofs.Common.{◌≡◌, ℕ, ◌<◌, get_or, length}
use Rattle.linear_form.specs.declared.form.Bound.{Bound}
use Rattle.linear_solver.specs.Insides.{IsPartOf}
use Rattle.linear_solver.proofs.probing.box_of.Given as goal

abbrev pub invariant-loop-variable : goal.invariant-loop-variable
invariant-loop-variable l = record {
  len : length l.point.items ≡ l.variable;
  inside : (k : ℕ) (c d : Bound) → k < l.variable → IsPartOf (get_or l.bounds k c) (get_or l.point.items k d);
}
