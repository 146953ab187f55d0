-- The tokens of the items so far.
use Rattle.std.proofs.Common.{take}
use Rattle.std.specs.List.{flat_map}
use Rattle.policy_syntax.specs.SyntaxTrees.{key_syntax_tree}
use Rattle.policy_printer.specs.Adds.{Adds}
use Rattle.policy_printer.specs.OrderTexts.{further_key_texts}
use Rattle.policy_printer.proofs.printer.Printer.order.Given as goal

abbrev pub invariant-loop-key : goal.invariant-loop-key
invariant-loop-key l = Adds (flat_map (λ x. further_key_texts (key_syntax_tree x)) (take l.key-index l.rest)) l.initial.self.bytes.items l.self.bytes.items
