-- The text of the lines so far.
use Rattle.std.proofs.Common.{◌≡◌, take}
use Rattle.trace_printer.specs.Printed.{trace_text}
use Rattle.trace_printer.proofs.printing.print_trace.Given as goal

abbrev pub invariant-loop-numbered : goal.invariant-loop-numbered
invariant-loop-numbered l = l.text.bytes.items ≡ trace_text (take l.numbered-index l.numbered-items)
