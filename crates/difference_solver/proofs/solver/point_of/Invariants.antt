use Rattle.std.proofs.Common.{◌≡◌, ℕ, ◌<◌, get_or, length, pos, vec_len}
use Rattle.difference_solver.specs.Distances.{between}
use Rattle.difference_solver.proofs.solver.point_of.Given as goal

abbrev pub invariant-loop-variable : goal.invariant-loop-variable
invariant-loop-variable l = record {
  count : vec_len l.vals ≡ l.variable;
  each : (k : ℕ) → k < l.variable → get_or l.vals.items k (pos 0) ≡ (between l.distances k (length l.system.bounds)).bound;
}
