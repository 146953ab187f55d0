use Rattle.std.proofs.Common.{ℕ, ◌<◌, get_or}
use Rattle.linear_form.specs.Solution.{IsWithin, value_at}
use Rattle.linear_form.specs.declared.form.Bound.{Bound}
use Rattle.linear_form.proofs.value.all_within.Given as goal

abbrev pub invariant-loop-variable : goal.invariant-loop-variable
invariant-loop-variable l = (k : ℕ) (d : Bound) → k < l.variable → IsWithin (get_or l.bounds k d) (value_at l.vals k)
