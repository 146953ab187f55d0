-- As many threads as numbers so far.
use Rattle.std.proofs.Common.{◌≡◌, length}
use Rattle.reader_tests.proofs.entries.stolen.Given as goal

abbrev pub invariant-loop-number : goal.invariant-loop-number
invariant-loop-number l = length l.threads ≡ l.number-index
