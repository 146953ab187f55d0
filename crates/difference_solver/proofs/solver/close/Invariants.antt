use Rattle.std.proofs.Common.{ℕ, ◌+◌, ◌<◌, length}
use Rattle.difference_solver.specs.Closing.{IsState, IsShortBehind, IsClosedAt}
use Rattle.difference_solver.proofs.solver.close.Given as goal

abbrev pub invariant-loop-step : goal.invariant-loop-step
invariant-loop-step l = record {
  state : IsState l.system.bounds l.system.rows l.distances;
  short : IsShortBehind l.step (length l.system.bounds) l.distances;
  closed : (m : ℕ) → m < l.distances.size → length l.system.bounds < m + l.step → IsClosedAt m l.distances;
}
