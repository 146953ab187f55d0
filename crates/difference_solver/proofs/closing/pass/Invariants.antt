use Rattle.difference_solver.proofs.Loops.{PassedFrom}
use Rattle.difference_solver.proofs.closing.pass.Given as goal

abbrev pub invariant-loop-from : goal.invariant-loop-from
invariant-loop-from l = PassedFrom l.middle l.from l.fn.distances l.distances
