use Rattle.difference_solver.proofs.Loops.{PassedTo}
use Rattle.difference_solver.proofs.closing.pass_from.Given as goal

abbrev pub invariant-loop-to : goal.invariant-loop-to
invariant-loop-to l = PassedTo l.middle l.from l.to l.fn.distances l.distances
