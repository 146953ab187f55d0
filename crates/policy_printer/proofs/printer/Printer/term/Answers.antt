use Rattle.policy_printer.specs.ExpressionTexts.{times_texts}
use Rattle.policy_printer.proofs.AddsLemmas.{◌⊳◌, one_more, all_items}
use Rattle.policy_printer.proofs.printer.Printer.term.Goals as goal

pub loop-times-preserved : goal.loop-times-preserved
loop-times-preserved c =
    one_more times_texts c.as_slice-times-items.result.now c.loop-times.times-index c.times-item.result c.times-item.is c.loop-times-test.true c.loop-times.invariant
    c.in_ok-times.ensures

pub returns : goal.returns
returns c = c.in_ok-factor.ensures ⊳ all_items times_texts c.loop-times.times-index c.as_slice-times-items.ensures.items c.loop-times-test.false c.loop-times.invariant
