-- The lines of the threads so far, and the state behind them.
use Rattle.std.proofs.Common.{◌≡◌, ◌+◌, ◌++◌, vec_len}
use Rattle.trace_maker.specs.Generator.{state_after}
use Rattle.trace_maker.specs.Made.{header, thread_lines}
use Rattle.trace_maker.proofs.making.make_trace.Given as goal

abbrev pub invariant-loop-done : goal.invariant-loop-done
invariant-loop-done l = record {
  lines : l.lines.items ≡ header ++ thread_lines l.seed l.done;
  state : l.state ≡ state_after l.seed l.done;
  counted : vec_len l.lines ≡ l.done + 3;
}
