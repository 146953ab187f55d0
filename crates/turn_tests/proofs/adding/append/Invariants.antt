use Rattle.std.proofs.Common.{◌≡◌}
use Rattle.turn_tests.proofs.adding.append.Given as goal

-- the history is as it was
abbrev pub invariant-loop : goal.invariant-loop
invariant-loop g l = (goal.iterator-loop g).can_next l.iterator' × (goal.iterator-loop g).is_finite l.iterator' × (l.history ≡ l.fn.history)
