use Rattle.std.proofs.Common.{[], ◌∷◌, ap, decimal, option_map, sym}
use Rattle.policy_syntax.specs.SyntaxTrees.{batch_syntax_tree}
use Rattle.policy_printer.specs.Adds.{Adds}
use Rattle.policy_printer.specs.PolicyTexts.{batch_texts}
use Rattle.policy_printer.proofs.AddsLemmas.{◌⊳◌, same_texts, on_ok}
use Rattle.policy_printer.proofs.printer.Printer.batch.Goals as goal

pub returns-in_ok-word-in-Some-2 : goal.returns-in_ok-word-in-Some-2
returns-in_ok-word-in-Some-2 c =
    on_ok c.number.result
    (λ (last : Adds (decimal c.in-Some.batch.limit ∷ []) c.word-in-Some.new.self.bytes.items c.number.new.self.bytes.items).
    same_texts (sym (ap (λ b. batch_texts (option_map batch_syntax_tree b)) c.in-Some.is))
    (c.in_ok-word-in-Some.ensures ⊳ c.in_ok-condition-in-Some.ensures ⊳ c.in_ok-word-in-Some-2.ensures ⊳ last)) c.number.ensures
