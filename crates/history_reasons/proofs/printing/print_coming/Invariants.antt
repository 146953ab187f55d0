-- The lines of the entries so far were written.
use Rattle.std.proofs.Common.{take}
use Rattle.sched_io.specs.Puts.{WritesAll}
use Rattle.history_reasons.specs.Lines.{legal_lines}
use Rattle.history_reasons.proofs.printing.print_coming.Given as goal

abbrev pub invariant-loop-entry : goal.invariant-loop-entry
invariant-loop-entry g l = WritesAll (take l.entry-index (legal_lines l.coming)) (g.S.Sink.shown l.initial.out) (g.S.Sink.shown l.out)
