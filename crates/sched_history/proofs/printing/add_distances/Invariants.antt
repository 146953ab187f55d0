-- The distances so far stand behind the colon.
use Rattle.std.proofs.Common.{◌≡◌, ◌++◌, take}
use Rattle.sched_history.specs.Spelling.{distances, spaced}
use Rattle.sched_history.proofs.printing.add_distances.Given as goal

abbrev pub invariant-loop-at : goal.invariant-loop-at
invariant-loop-at l = l.line ≡ l.initial.line ++ spaced (take l.at (distances l.start l.reads))
