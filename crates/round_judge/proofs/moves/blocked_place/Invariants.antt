use Rattle.std.proofs.Common.{◌≡◌, ◌++◌, drop, take, find}
use Rattle.round_model.specs.Moves.{is_blocked_task, without_first}
use Rattle.round_judge.proofs.moves.blocked_place.Given as goal

-- the tasks passed over have other numbers
abbrev pub invariant-loop-at : goal.invariant-loop-at
invariant-loop-at l = record {
  found : find (is_blocked_task l.thread) (drop l.at l.core.blocked) ≡ find (is_blocked_task l.thread) l.core.blocked;
  rest : without_first (is_blocked_task l.thread) l.core.blocked ≡ take l.at l.core.blocked ++ without_first (is_blocked_task l.thread) (drop l.at l.core.blocked);
}
