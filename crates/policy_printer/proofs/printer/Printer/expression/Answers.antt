use Rattle.policy_printer.specs.ExpressionTexts.{added_texts}
use Rattle.policy_printer.proofs.AddsLemmas.{◌⊳◌, one_more, all_items}
use Rattle.policy_printer.proofs.printer.Printer.expression.Goals as goal

pub loop-added-preserved : goal.loop-added-preserved
loop-added-preserved c =
    one_more added_texts c.as_slice-added-items.result.now c.loop-added.added-index c.added-item.result c.added-item.is c.loop-added-test.true c.loop-added.invariant
    c.in_ok-added.ensures

pub returns : goal.returns
returns c = c.in_ok-term.ensures ⊳ all_items added_texts c.loop-added.added-index c.as_slice-added-items.ensures.items c.loop-added-test.false c.loop-added.invariant
