use Rattle.std.proofs.Common.{refl}
use Rattle.c_printer.specs.StructTexts.{field_texts}
use Rattle.c_printer.proofs.AddsLemmas.{one_more, all_items}
use Rattle.c_printer.proofs.printer.Printer.fields.Goals as goal

pub loop-attr-preserved : goal.loop-attr-preserved
loop-attr-preserved c =
    one_more (field_texts) c.args.attrs.now c.loop-attr.attr-index c.attr-item.result c.attr-item.is
    c.loop-attr-test.true c.loop-attr.invariant c.in_ok-attr_field.ensures

pub returns : goal.returns
returns c = all_items (field_texts) c.loop-attr.attr-index refl c.loop-attr-test.false c.loop-attr.invariant
