use Rattle.std.proofs.Common.{◌≡◌, ◌++◌, drop, take, find}
use Rattle.round_model.specs.Moves.{is_task, without_first}
use Rattle.round_judge.proofs.stealing.queued_place.Given as goal

-- the tasks passed over have other numbers
abbrev pub invariant-loop-at : goal.invariant-loop-at
invariant-loop-at l = record {
  found : find (is_task l.thread) (drop l.at l.queue) ≡ find (is_task l.thread) l.queue;
  rest : without_first (is_task l.thread) l.queue ≡ take l.at l.queue ++ without_first (is_task l.thread) (drop l.at l.queue);
}
