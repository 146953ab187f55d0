use Rattle.std.proofs.Common.{◌∷◌, [], codes}
use Rattle.policy_tree.specs.Meaning.{key_tree, meaning_of}
use Rattle.c_printer.specs.Adds.{Adds}
use Rattle.c_printer.specs.OrderTexts.{key_texts}
use Rattle.c_printer.proofs.AddsLemmas.{◌⊳◌, one_more, all_trees, on_ok}
use Rattle.c_printer.proofs.printer.Printer.order.Goals as goal

pub loop-key-preserved : goal.loop-key-preserved
loop-key-preserved c =
    one_more (λ x. key_texts (meaning_of c.args.policy.now) (key_tree x)) c.as_slice-key-items.result.now c.loop-key.key-index
    c.key-item.result c.key-item.is c.loop-key-test.true c.loop-key.invariant c.in_ok-key.ensures

pub returns : goal.returns
returns c =
    on_ok c.word-2.result
    (λ (last : Adds (codes "\treturn false;\n}\n" ∷ []) c.loop-key.self.bytes.items c.word-2.new.self.bytes.items).
    c.in_ok-word.ensures
    ⊳ all_trees (key_texts (meaning_of c.args.policy.now)) key_tree c.loop-key.key-index c.as_slice-key-items.ensures.items
    c.loop-key-test.false c.loop-key.invariant
    ⊳ last) c.word-2.ensures
