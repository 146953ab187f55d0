use Rattle.std.proofs.Common.{◌∙◌, refl, sym, ap, map}
use Rattle.policy_syntax.specs.SyntaxTrees.{key_syntax_tree}
use Rattle.policy_printer.specs.OrderTexts.{further_key_texts, keys_texts}
use Rattle.policy_printer.proofs.AddsLemmas.{◌⊳◌, one_more, all_trees, same_texts}
use Rattle.policy_printer.proofs.printer.Printer.order.Goals as goal

pub loop-key-preserved : goal.loop-key-preserved
loop-key-preserved c =
    one_more (λ x. further_key_texts (key_syntax_tree x)) c.in-Some.keys.1.now c.loop-key.key-index c.key-item.result c.key-item.is c.loop-key-test.true c.loop-key.invariant
    c.in_ok-further_key.ensures

pub returns : goal.returns
returns c =
    let split = sym c.as_slice.ensures.items ∙ c.in-Some.ensures.cases.0 in
    same_texts (sym (ap (λ ks. keys_texts (map key_syntax_tree ks)) split))
    (c.in_ok-key.ensures ⊳ all_trees further_key_texts key_syntax_tree c.loop-key.key-index refl c.loop-key-test.false c.loop-key.invariant)
