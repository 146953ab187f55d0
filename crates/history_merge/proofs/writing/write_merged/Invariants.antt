-- The header and the lines of the entries so far were written.
use Rattle.std.proofs.Common.{◌≡◌, ◌+◌, take}
use Rattle.round_model.specs.Reads.{round_start}
use Rattle.sched_io.specs.Puts.{WritesAll}
use Rattle.history_merge.specs.Cursors.{StandAt}
use Rattle.history_merge.specs.Merged.{merged, text_lines}
use Rattle.history_merge.proofs.writing.write_merged.Given as goal

abbrev pub invariant-loop-at : goal.invariant-loop-at
invariant-loop-at g l = record {
  stand : StandAt l.closed l.at l.cursors;
  start : l.start ≡ round_start (take l.at (merged l.closed));
  written : WritesAll (take (l.at + 1) (text_lines l.closed)) (g.S.Sink.shown l.fn.out) (g.S.Sink.shown l.out);
}
