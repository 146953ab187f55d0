use Rattle.std.proofs.Common.{take}
use Rattle.linear_solver.specs.Elimination.{HasNoContradiction}
use Rattle.linear_solver.proofs.elimination.contradiction.Given as goal

abbrev pub invariant-loop-place : goal.invariant-loop-place
invariant-loop-place l = HasNoContradiction (take l.place l.list)
