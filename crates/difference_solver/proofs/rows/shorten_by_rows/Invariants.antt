use Rattle.std.proofs.Common.{take, All, length}
use Rattle.difference_solver.specs.Meaning.{Keeps}
use Rattle.difference_solver.specs.Shortening.{Shortens}
use Rattle.difference_solver.proofs.rows.shorten_by_rows.Given as goal

abbrev pub invariant-loop-number : goal.invariant-loop-number
invariant-loop-number l = record {
  shortens : Shortens l.system.bounds l.system.rows l.fn.distances l.distances;
  keeps : All (Keeps (length l.system.bounds) l.distances) (take l.number l.system.rows);
}
