use Rattle.std.proofs.Common.{◌≡◌, length}
use Rattle.turn_steps.specs.Answers.{told_so_far}
use Rattle.turn_steps.specs.States.{IsTurnOf, state_of}
use Rattle.turn_tests.proofs.orders.is_asked.Given as goal

-- the turn is one of the plan, and was told something in each place passed over
abbrev pub invariant-loop-at : goal.invariant-loop-at
invariant-loop-at l = record {
  of_plan : IsTurnOf l.plan (state_of l.turning);
  many : length (told_so_far (state_of l.turning)) ≡ l.at;
}
