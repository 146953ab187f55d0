-- The words of the bursts so far.
use Rattle.std.proofs.Common.{take}
use Rattle.std.specs.List.{flat_map}
use Rattle.trace_printer.specs.Adds.{Adds}
use Rattle.trace_printer.specs.Printed.{words_of_burst}
use Rattle.trace_printer.proofs.text.Text.bursts.Given as goal

abbrev pub invariant-loop-burst : goal.invariant-loop-burst
invariant-loop-burst l =
    Adds (flat_map words_of_burst (take l.burst-index l.bursts)) l.initial.self.bytes.items l.self.bytes.items
