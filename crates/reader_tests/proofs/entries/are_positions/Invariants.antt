-- The positions so far are in their range.
use Rattle.std.proofs.Common.{ℕ, ◌<◌, get_or}
use Rattle.sched_history.specs.Ranges.{IsPositionFrom}
use Rattle.reader_tests.proofs.entries.are_positions.Given as goal

abbrev pub invariant-loop-at : goal.invariant-loop-at
invariant-loop-at l = (k : ℕ) (d : ℕ) → k < l.at → IsPositionFrom l.start (get_or l.reads k d)
