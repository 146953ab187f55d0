use Rattle.std.proofs.Common.{◌≡◌, length}
use Rattle.history_reader.proofs.Threads.{Reads}
use Rattle.history_reader.proofs.numbers.threads_at.Given as goal

-- so many threads were read, and the rest is left
abbrev pub invariant-loop-thread : goal.invariant-loop-thread
invariant-loop-thread l = record {
  count : length l.threads ≡ l._thread;
  reads : Reads l.text l.threads l.rest;
}
