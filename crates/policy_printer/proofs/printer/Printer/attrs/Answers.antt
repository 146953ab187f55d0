use Rattle.policy_printer.specs.PolicyTexts.{attr_texts}
use Rattle.policy_printer.proofs.AddsLemmas.{one_more}
use Rattle.policy_printer.proofs.printer.Printer.attrs.Goals as goal

pub loop-attr-preserved : goal.loop-attr-preserved
loop-attr-preserved c =
    one_more attr_texts c.args.attrs.now c.loop-attr.attr-index c.attr-item.result c.attr-item.is c.loop-attr-test.true c.loop-attr.invariant c.in_ok-attr.ensures
