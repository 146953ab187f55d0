-- The tokens of the items so far.
use Rattle.std.proofs.Common.{take}
use Rattle.std.specs.List.{flat_map}
use Rattle.policy_printer.specs.Adds.{Adds}
use Rattle.policy_printer.specs.ExpressionTexts.{added_texts}
use Rattle.policy_printer.proofs.printer.Printer.expression.Given as goal

abbrev pub invariant-loop-added : goal.invariant-loop-added
invariant-loop-added l = Adds (flat_map added_texts (take l.added-index l.added-items)) l.initial.self.bytes.items l.self.bytes.items
