use Rattle.std.proofs.Common.{option_map}
use Rattle.policy_syntax.specs.SyntaxTrees.{batch_syntax_tree}
use Rattle.policy_printer.specs.Adds.{Adds}
use Rattle.policy_printer.specs.PolicyTexts.{batch_texts}
use Rattle.policy_printer.proofs.AddsLemmas.{◌⊳◌, on_ok}
use Rattle.policy_printer.proofs.printer.Printer.phases.Goals as goal

pub returns : goal.returns
returns c =
    on_ok c.batch.result
    (λ (last : Adds (batch_texts (option_map batch_syntax_tree c.args.syntax.now.batch)) c.order-2.new.self.bytes.items c.batch.new.self.bytes.items).
    c.in_ok-word.ensures ⊳ c.in_ok-condition.ensures ⊳ c.in_ok-word-2.ensures ⊳ c.in_ok-order.ensures ⊳ c.in_ok-word-3.ensures
    ⊳ c.in_ok-order-2.ensures ⊳ last) c.batch.ensures
