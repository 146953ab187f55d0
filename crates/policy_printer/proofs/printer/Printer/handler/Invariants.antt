-- The tokens of the items so far.
use Rattle.std.proofs.Common.{take}
use Rattle.std.specs.List.{flat_map}
use Rattle.policy_syntax.specs.SyntaxTrees.{case_syntax_tree}
use Rattle.policy_printer.specs.Adds.{Adds}
use Rattle.policy_printer.specs.PolicyTexts.{case_texts}
use Rattle.policy_printer.proofs.printer.Printer.handler.Given as goal

abbrev pub invariant-loop-case : goal.invariant-loop-case
invariant-loop-case l = Adds (flat_map (λ x. case_texts (case_syntax_tree x)) (take l.case-index l.case-items)) l.initial.self.bytes.items l.self.bytes.items
