-- As many reads as positions so far.
use Rattle.std.proofs.Common.{◌≡◌, length}
use Rattle.reader_tests.proofs.entries.reads_at.Given as goal

abbrev pub invariant-loop-position : goal.invariant-loop-position
invariant-loop-position l = length l.reads ≡ l.position-index
