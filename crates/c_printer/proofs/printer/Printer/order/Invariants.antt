-- The texts of the keys so far.
use Rattle.std.proofs.Common.{take}
use Rattle.std.specs.List.{flat_map}
use Rattle.policy_tree.specs.Meaning.{key_tree, meaning_of}
use Rattle.c_printer.specs.Adds.{Adds}
use Rattle.c_printer.specs.OrderTexts.{key_texts}
use Rattle.c_printer.proofs.printer.Printer.order.Given as goal

abbrev pub invariant-loop-key : goal.invariant-loop-key
invariant-loop-key l =
    Adds (flat_map (λ x. key_texts (meaning_of l.policy) (key_tree x)) (take l.key-index l.key-items))
    l.initial.self.bytes.items l.self.bytes.items
