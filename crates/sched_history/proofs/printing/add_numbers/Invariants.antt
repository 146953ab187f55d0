-- The numbers so far stand behind what was there.
use Rattle.std.proofs.Common.{◌≡◌, ◌++◌, take}
use Rattle.sched_history.specs.Spelling.{spaced}
use Rattle.sched_history.proofs.printing.add_numbers.Given as goal

abbrev pub invariant-loop-number : goal.invariant-loop-number
invariant-loop-number l = l.line ≡ l.initial.line ++ spaced (take l.number-index l.numbers)
