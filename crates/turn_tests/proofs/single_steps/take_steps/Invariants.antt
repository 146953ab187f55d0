use Rattle.turn_steps.specs.States.{state_of}
use Rattle.turn_tests.specs.Beside.{IsBeside}
use Rattle.turn_tests.specs.Follows.{IsSame}
use Rattle.turn_tests.proofs.single_steps.take_steps.Given as goal

-- the turn was told what the core's calls answered
abbrev pub invariant-loop : goal.invariant-loop
invariant-loop g l = record {
  next : (goal.iterator-loop g).can_next l.iterator';
  finite : (goal.iterator-loop g).is_finite l.iterator';
  beside : IsBeside (g.G.Gate.passed l.gate) l.calls (state_of l.turning);
  same : IsSame l.fn.calls l.calls;
}
