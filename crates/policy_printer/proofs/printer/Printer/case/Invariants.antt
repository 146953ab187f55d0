-- The tokens of the items so far.
use Rattle.std.proofs.Common.{take}
use Rattle.std.specs.List.{flat_map}
use Rattle.policy_printer.specs.Adds.{Adds}
use Rattle.policy_printer.specs.PolicyTexts.{set_texts}
use Rattle.policy_printer.proofs.printer.Printer.case.Given as goal

abbrev pub invariant-loop-set : goal.invariant-loop-set
invariant-loop-set l = Adds (flat_map set_texts (take l.set-index l.set-items)) l.initial.self.bytes.items l.self.bytes.items
