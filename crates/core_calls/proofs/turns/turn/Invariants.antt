use Rattle.std.proofs.Common.{◌+◌, ◌-◌, length}
use Rattle.turn_steps.specs.Answers.{told_so_far}
use Rattle.turn_steps.specs.States.{state_of}
use Rattle.core_calls.proofs.TurnEnds.{HasComeSoFar}
use Rattle.core_calls.proofs.turns.turn.Given as goal

-- so far the turn has come
abbrev pub invariant-loop : goal.invariant-loop
invariant-loop g l = record {
  come : HasComeSoFar l.core l.round (g.G.Gate.passed l.gate) (g.C.CoreCalls.view l.fn.calls) (state_of l.turning) (g.C.CoreCalls.view l.calls);
  ready : g.C.CoreCalls.ready l.calls;
  follows : g.C.CoreCalls.follows l.fn.calls l.calls;
}

-- each step tells more, of which there is an end
abbrev pub decreases-loop : goal.decreases-loop
decreases-loop g l = l.plan.limit + 3 - length (told_so_far (state_of l.turning))
