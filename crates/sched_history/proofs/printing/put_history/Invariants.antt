-- The header and the lines of the entries so far were written.
use Rattle.std.proofs.Common.{◌≡◌, ◌+◌, take}
use Rattle.round_model.specs.Reads.{round_start}
use Rattle.sched_io.specs.Puts.{WritesAll}
use Rattle.sched_history.specs.Spelling.{lines_of_history}
use Rattle.sched_history.proofs.printing.put_history.Given as goal

abbrev pub invariant-loop-entry : goal.invariant-loop-entry
invariant-loop-entry g l = record {
  start : l.start ≡ round_start (take l.entry-index l.entries);
  count : l.count ≡ l.entry-index;
  written : WritesAll (take (l.entry-index + 1) (lines_of_history l.cores l.entries)) (g.S.Sink.shown l.fn.out) (g.S.Sink.shown l.out);
}
