-- The tokens of the items so far.
use Rattle.std.proofs.Common.{take}
use Rattle.std.specs.List.{flat_map}
use Rattle.policy_syntax.specs.SyntaxTrees.{handler_syntax_tree}
use Rattle.policy_printer.specs.Adds.{Adds}
use Rattle.policy_printer.specs.PolicyTexts.{handler_texts}
use Rattle.policy_printer.proofs.printer.Printer.handlers.Given as goal

abbrev pub invariant-loop-handler : goal.invariant-loop-handler
invariant-loop-handler l = Adds (flat_map (λ x. handler_texts (handler_syntax_tree x)) (take l.handler-index l.handlers)) l.initial.self.bytes.items l.self.bytes.items
