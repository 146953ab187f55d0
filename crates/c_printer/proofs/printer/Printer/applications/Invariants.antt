-- The texts of the items so far.
use Rattle.std.proofs.Common.{take}
use Rattle.std.specs.List.{flat_map}
use Rattle.c_printer.specs.Adds.{Adds}
use Rattle.c_printer.specs.StructTexts.{applied_texts}
use Rattle.c_printer.proofs.printer.Printer.applications.Given as goal

abbrev pub invariant-loop-attr : goal.invariant-loop-attr
invariant-loop-attr l = Adds (flat_map (applied_texts) (take l.attr-index l.attrs)) l.initial.self.bytes.items l.self.bytes.items
