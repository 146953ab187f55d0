-- The words of the cores so far.
use Rattle.std.proofs.Common.{take}
use Rattle.std.specs.List.{flat_map}
use Rattle.trace_printer.specs.Adds.{Adds}
use Rattle.trace_printer.proofs.AddsLemmas.{word_of}
use Rattle.trace_printer.proofs.text.Text.cores.Given as goal

abbrev pub invariant-loop-core : goal.invariant-loop-core
invariant-loop-core l =
    Adds (flat_map word_of (take l.core-index l.cores)) l.initial.self.bytes.items l.self.bytes.items
