use Rattle.std.proofs.Common.{◌≡◌}
use Rattle.obligations.specs.Cases.{crossed}
use Rattle.obligations.proofs.crossing.each_with_each.Given as goal

abbrev pub invariant-loop-rows : goal.invariant-loop-rows
invariant-loop-rows l = l.all.items ≡ crossed l.yielded l.right
