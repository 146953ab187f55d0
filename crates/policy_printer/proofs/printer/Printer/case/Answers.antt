use Rattle.std.proofs.Common.{◌∷◌, []}
use Rattle.policy_printer.specs.Adds.{Adds}
use Rattle.policy_printer.specs.PolicyTexts.{set_texts}
use Rattle.policy_printer.proofs.AddsLemmas.{◌⊳◌, one_more, all_items, reads_as, on_ok}
use Rattle.policy_printer.proofs.printer.Printer.case.Goals as goal

pub loop-set-preserved : goal.loop-set-preserved
loop-set-preserved c =
    one_more set_texts c.as_slice-set-items.result.now c.loop-set.set-index c.set-item.result c.set-item.is c.loop-set-test.true c.loop-set.invariant
    c.in_ok-set.ensures

pub returns : goal.returns
returns c =
    on_ok c.word-3.result
    (λ (last : Adds (c.put_text.result.now ∷ []) c.loop-set.self.bytes.items c.word-3.new.self.bytes.items).
    c.in_ok-word.ensures ⊳ c.in_ok-condition.ensures ⊳ c.in_ok-word-2.ensures
    ⊳ all_items set_texts c.loop-set.set-index c.as_slice-set-items.ensures.items c.loop-set-test.false c.loop-set.invariant
    ⊳ reads_as c.put_text.ensures last) c.word-3.ensures
