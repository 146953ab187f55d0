use Rattle.std.proofs.Common.{All, MatchOption, take}
use Rattle.linear_solver.specs.Boxes.{IsImplied}
use Rattle.linear_solver.specs.Steps.{IsTight}
use Rattle.linear_solver.proofs.choice.look_over.Given as goal

abbrev pub invariant-loop-number : goal.invariant-loop-number
invariant-loop-number l = MatchOption l.tight (All (IsImplied l.bounds) (take l.number l.rows)) (IsTight l.bounds l.rows)
