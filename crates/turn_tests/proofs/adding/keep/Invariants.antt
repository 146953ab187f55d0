use Rattle.std.proofs.Common.{◌≡◌}
use Rattle.turn_tests.proofs.adding.keep.Given as goal

-- what is kept is as it was
abbrev pub invariant-loop : goal.invariant-loop
invariant-loop g l = (goal.iterator-loop g).can_next l.iterator' × (goal.iterator-loop g).is_finite l.iterator' × (l.past ≡ l.fn.past)
