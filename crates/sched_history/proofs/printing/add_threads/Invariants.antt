-- The threads so far stand behind what was there.
use Rattle.std.proofs.Common.{◌≡◌, ◌++◌, take}
use Rattle.sched_history.specs.Spelling.{spaced}
use Rattle.sched_history.proofs.printing.add_threads.Given as goal

abbrev pub invariant-loop-at : goal.invariant-loop-at
invariant-loop-at l = l.line ≡ l.initial.line ++ spaced (take l.at l.threads)
