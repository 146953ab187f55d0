use Rattle.std.proofs.Common.{◌≡◌, ◌≤◌, ◌++◌, drop, length}
use Rattle.linear_solver.specs.Leaves.{multipliers_from}
use Rattle.linear_solver.proofs.leaf.leaf_of.Given as goal

abbrev pub invariant-loop-number : goal.invariant-loop-number
invariant-loop-number l = record {
  rest : l.leaf ++ multipliers_from l.number (drop l.number l.mults) ≡ multipliers_from 0 l.mults;
  few : length l.leaf ≤ l.number;
}
