-- The threads so far are in their range.
use Rattle.std.proofs.Common.{ℕ, ◌<◌, get_or}
use Rattle.sched_history.specs.Ranges.{IsThreadNumber}
use Rattle.reader_tests.proofs.entries.are_threads.Given as goal

abbrev pub invariant-loop-at : goal.invariant-loop-at
invariant-loop-at l = (k : ℕ) (d : ℕ) → k < l.at → IsThreadNumber (get_or l.threads k d)
