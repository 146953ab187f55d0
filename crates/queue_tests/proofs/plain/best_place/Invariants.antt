use Rattle.std.proofs.Common.{◌<◌, length}
use Rattle.queue_tests.proofs.plain.best_place.Given as goal

-- the best so far is one of the tasks
abbrev pub invariant-loop-at : goal.invariant-loop-at
invariant-loop-at l = l.best < length l.tasks
