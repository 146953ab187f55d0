-- The tokens of the items so far.
use Rattle.std.proofs.Common.{take}
use Rattle.std.specs.List.{flat_map}
use Rattle.policy_printer.specs.Adds.{Adds}
use Rattle.policy_printer.specs.ExpressionTexts.{times_texts}
use Rattle.policy_printer.proofs.printer.Printer.term.Given as goal

abbrev pub invariant-loop-times : goal.invariant-loop-times
invariant-loop-times l = Adds (flat_map times_texts (take l.times-index l.times-items)) l.initial.self.bytes.items l.self.bytes.items
