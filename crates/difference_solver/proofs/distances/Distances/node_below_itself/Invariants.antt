use Rattle.std.proofs.Common.{ℕ, ◌<◌, pos, ◌≤ℤ◌}
use Rattle.difference_solver.specs.Distances.{between}
use Rattle.difference_solver.proofs.distances.Distances.node_below_itself.Given as goal

abbrev pub invariant-loop-node : goal.invariant-loop-node
invariant-loop-node l = (k : ℕ) → k < l.node → pos 0 ≤ℤ (between l.self k k).bound
