-- What is written is the text of the logs that are left.
use Rattle.std.proofs.Common.{subst, sym}
use Rattle.core_state.specs.Views.{ClosedView}
use Rattle.sched_io.specs.Puts.{WritesAll, WritesPart}
use Rattle.history_merge.specs.Merged.{text_lines}
use Rattle.trace_simulation.specs.declared.answer.SimulationAnswer.{SimulationAnswer}
use Rattle.trace_simulation.specs.Lines.{lines_of}
use Rattle.trace_simulation.proofs.answer.SimulationAnswer.put.Goals as goal

pub returns-in-Ok : goal.returns-in-Ok
returns-in-Ok g c =
    let before = g.S.Sink.shown c.args.out.now in let after = g.S.Sink.shown c.write_merged.new.out in
    subst (λ (a : SimulationAnswer). WritesAll (lines_of a) before after) (sym c.in-Played.is)
    (subst (λ (closed : ClosedView). WritesAll (text_lines closed) before after) c.closed.ensures c.in-Ok.ensures.lines)

pub returns-in-Err : goal.returns-in-Err
returns-in-Err g c =
    let before = g.S.Sink.shown c.args.out.now in let after = g.S.Sink.shown c.write_merged.new.out in
    subst (λ (a : SimulationAnswer). WritesPart (lines_of a) before after) (sym c.in-Played.is)
    (subst (λ (closed : ClosedView). WritesPart (text_lines closed) before after) c.closed.ensures c.in-Err.ensures.lines)
