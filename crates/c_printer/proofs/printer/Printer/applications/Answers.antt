use Rattle.std.proofs.Common.{refl}
use Rattle.c_printer.specs.StructTexts.{applied_texts}
use Rattle.c_printer.proofs.AddsLemmas.{one_more, all_items}
use Rattle.c_printer.proofs.printer.Printer.applications.Goals as goal

pub loop-attr-preserved : goal.loop-attr-preserved
loop-attr-preserved c =
    one_more (applied_texts) c.args.attrs.now c.loop-attr.attr-index c.attr-item.result c.attr-item.is
    c.loop-attr-test.true c.loop-attr.invariant c.in_ok-applied.ensures

pub returns : goal.returns
returns c = all_items (applied_texts) c.loop-attr.attr-index refl c.loop-attr-test.false c.loop-attr.invariant
