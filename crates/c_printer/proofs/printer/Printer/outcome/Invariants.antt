-- The texts of the assignments so far.
use Rattle.std.proofs.Common.{take}
use Rattle.std.specs.List.{flat_map}
use Rattle.policy_tree.specs.Meaning.{meaning_of, set_tree}
use Rattle.c_printer.specs.Adds.{Adds}
use Rattle.c_printer.specs.EventTexts.{set_texts}
use Rattle.c_printer.proofs.printer.Printer.outcome.Given as goal

abbrev pub invariant-loop-set : goal.invariant-loop-set
invariant-loop-set l =
    Adds (flat_map (λ x. set_texts (meaning_of l.policy) l.indent (set_tree x)) (take l.set-index l.set-items))
    l.initial.self.bytes.items l.self.bytes.items
