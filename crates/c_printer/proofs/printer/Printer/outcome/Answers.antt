use Rattle.std.proofs.Common.{◌∷◌, [], codes}
use Rattle.policy_tree.specs.Meaning.{meaning_of, set_tree}
use Rattle.c_printer.specs.Adds.{Adds}
use Rattle.c_printer.specs.EventTexts.{set_texts}
use Rattle.c_printer.proofs.AddsLemmas.{◌⊳◌, one_more, all_trees, reads_as, on_ok}
use Rattle.c_printer.proofs.printer.Printer.outcome.Goals as goal

pub loop-set-preserved : goal.loop-set-preserved
loop-set-preserved c =
    one_more (λ x. set_texts (meaning_of c.args.policy.now) c.args.indent.now (set_tree x)) c.as_slice-set-items.result.now
    c.loop-set.set-index c.set-item.result c.set-item.is c.loop-set-test.true c.loop-set.invariant c.in_ok-set.ensures

pub returns : goal.returns
returns c =
    on_ok c.word-4.result
    (λ (last : Adds (codes ";\n" ∷ []) c.word-3.new.self.bytes.items c.word-4.new.self.bytes.items).
    all_trees (set_texts (meaning_of c.args.policy.now) c.args.indent.now) set_tree c.loop-set.set-index
    c.as_slice-set-items.ensures.items c.loop-set-test.false c.loop-set.invariant
    ⊳ c.in_ok-word.ensures ⊳ c.in_ok-word-2.ensures ⊳ reads_as c.as_slice.ensures.items c.in_ok-name.ensures
    ⊳ reads_as c.put_text.ensures c.in_ok-word-3.ensures ⊳ last) c.word-4.ensures
