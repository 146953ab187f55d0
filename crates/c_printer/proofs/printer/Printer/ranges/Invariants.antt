-- The texts of the items so far.
use Rattle.std.proofs.Common.{take}
use Rattle.std.specs.List.{flat_map}
use Rattle.policy_tree.specs.Meaning.{meaning_of}
use Rattle.c_printer.specs.Adds.{Adds}
use Rattle.c_printer.specs.StructTexts.{range_texts}
use Rattle.c_printer.proofs.printer.Printer.ranges.Given as goal

abbrev pub invariant-loop-attr : goal.invariant-loop-attr
invariant-loop-attr l = Adds (flat_map (range_texts (meaning_of l.policy) l.kind) (take l.attr-index l.attrs)) l.initial.self.bytes.items l.self.bytes.items
