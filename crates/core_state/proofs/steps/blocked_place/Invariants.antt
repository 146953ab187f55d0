use Rattle.std.proofs.Common.{◌≡◌, ◌++◌, drop, take, find}
use Rattle.round_model.specs.Moves.{is_blocked_task, without_first}
use Rattle.core_state.proofs.steps.blocked_place.Given as goal

-- the tasks passed over have other numbers
abbrev pub invariant-loop-at : goal.invariant-loop-at
invariant-loop-at l = record {
  found : find (is_blocked_task l.thread) (drop l.at l.blocked) ≡ find (is_blocked_task l.thread) l.blocked;
  rest : without_first (is_blocked_task l.thread) l.blocked ≡ take l.at l.blocked ++ without_first (is_blocked_task l.thread) (drop l.at l.blocked);
}
