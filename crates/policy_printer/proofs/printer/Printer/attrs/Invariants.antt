-- The tokens of the items so far.
use Rattle.std.proofs.Common.{take}
use Rattle.std.specs.List.{flat_map}
use Rattle.policy_printer.specs.Adds.{Adds}
use Rattle.policy_printer.specs.PolicyTexts.{attr_texts}
use Rattle.policy_printer.proofs.printer.Printer.attrs.Given as goal

abbrev pub invariant-loop-attr : goal.invariant-loop-attr
invariant-loop-attr l = Adds (flat_map attr_texts (take l.attr-index l.attrs)) l.initial.self.bytes.items l.self.bytes.items
