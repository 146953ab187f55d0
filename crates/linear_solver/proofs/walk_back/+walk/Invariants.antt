use Rattle.std.proofs.Common.{◌≤◌}
use Rattle.linear_solver.proofs.walk_back.+walk.Given as goal

abbrev pub decreases-walk : goal.decreases-walk
decreases-walk l = l.left

-- picks are only taken
abbrev pub invariant-loop-pick : goal.invariant-loop-pick
invariant-loop-pick l = l.picks ≤ l.initial.picks
