use Rattle.std.proofs.Common.{◌∷◌, [], codes}
use Rattle.policy_syntax.specs.SyntaxTrees.{case_syntax_tree}
use Rattle.policy_printer.specs.Adds.{Adds}
use Rattle.policy_printer.specs.PolicyTexts.{case_texts}
use Rattle.policy_printer.proofs.AddsLemmas.{◌⊳◌, one_more, all_trees, reads_as, on_ok}
use Rattle.policy_printer.proofs.printer.Printer.handler.Goals as goal

pub loop-case-preserved : goal.loop-case-preserved
loop-case-preserved c =
    one_more (λ x. case_texts (case_syntax_tree x)) c.as_slice-case-items.result.now c.loop-case.case-index c.case-item.result c.case-item.is
    c.loop-case-test.true c.loop-case.invariant c.in_ok-case.ensures

pub returns : goal.returns
returns c =
    on_ok c.word-4.result
    (λ (last : Adds (codes "}" ∷ []) c.loop-case.self.bytes.items c.word-4.new.self.bytes.items).
    c.in_ok-word.ensures ⊳ reads_as c.event_text.ensures c.in_ok-word-2.ensures ⊳ c.in_ok-word-3.ensures
    ⊳ all_trees case_texts case_syntax_tree c.loop-case.case-index c.as_slice-case-items.ensures.items c.loop-case-test.false c.loop-case.invariant
    ⊳ last) c.word-4.ensures
