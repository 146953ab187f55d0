use Rattle.std.proofs.Common.{◌≡◌, ◌++◌}
use Rattle.obligations.proofs.crossing.joined.Given as goal

abbrev pub invariant-loop-rows : goal.invariant-loop-rows
invariant-loop-rows l = l.left.items ≡ l.initial.left.items ++ l.yielded
