use Rattle.std.proofs.Common.{◌≡◌, ◌++◌, take}
use Rattle.round_judge.proofs.stealing.push_all.Given as goal

-- the first tasks stand at the end
abbrev pub invariant-loop-at : goal.invariant-loop-at
invariant-loop-at l = record {
  so_far : l.queue ≡ l.initial.queue ++ take l.at l.tasks;
}
