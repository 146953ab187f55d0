-- The words of the constants so far.
use Rattle.std.proofs.Common.{take}
use Rattle.std.specs.List.{flat_map}
use Rattle.trace_printer.specs.Adds.{Adds}
use Rattle.trace_printer.specs.Printed.{words_of_const}
use Rattle.trace_printer.proofs.text.Text.consts.Given as goal

abbrev pub invariant-loop-given : goal.invariant-loop-given
invariant-loop-given l =
    Adds (flat_map words_of_const (take l.given-index l.consts)) l.initial.self.bytes.items l.self.bytes.items
