use Rattle.std.proofs.Common.{OnOk, [], ◌∷◌, ◌++◌, subst}
use Rattle.policy_tree.specs.Meaning.{meaning_of}
use Rattle.policy_tree.specs.Trees.{expr_tree}
use Rattle.c_printer.specs.Adds.{Adds}
use Rattle.c_printer.specs.declared.words.Width.{Width}
use Rattle.c_printer.specs.ExpressionTexts.{expr_texts}
use Rattle.c_printer.specs.WordTexts.{begin_text, end_text}
use Rattle.c_printer.proofs.AddsLemmas.{◌⊳◌, given_ok, reads_as}
use Rattle.c_printer.proofs.printer.Printer.value.Goals as goal

pub returns : goal.returns
returns c =
    subst (λ (w : Width). OnOk c.word-2.result (Adds (begin_text w ∷ (expr_texts (meaning_of c.args.policy.now) c.args.view w
    (expr_tree c.args.expr.now) ++ (end_text w ∷ []))) c.args.self.now.bytes.items c.word-2.new.self.bytes.items)) c.width_of-width.ensures
    (given_ok c.word-2.result c.word-2.ensures
    (λ last. reads_as c.begin_text.ensures c.in_ok-word.ensures ⊳ c.in_ok-expression.ensures ⊳ reads_as c.end_text.ensures last))
