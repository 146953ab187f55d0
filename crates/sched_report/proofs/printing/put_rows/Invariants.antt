-- The lines of the rows so far were written.
use Rattle.std.proofs.Common.{map, take}
use Rattle.sched_io.specs.Puts.{WritesAll}
use Rattle.sched_report.proofs.printing.put_rows.Given as goal

abbrev pub invariant-loop-row : goal.invariant-loop-row
invariant-loop-row g l = WritesAll (take l.row-index (map g.R.Row.text l.rows)) (g.S.Sink.shown l.initial.out) (g.S.Sink.shown l.out)
