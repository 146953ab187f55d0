use Rattle.std.proofs.Common.{refl}
use Rattle.policy_tree.specs.Meaning.{meaning_of}
use Rattle.c_printer.specs.StructTexts.{range_texts}
use Rattle.c_printer.proofs.AddsLemmas.{one_more, all_items}
use Rattle.c_printer.proofs.printer.Printer.ranges.Goals as goal

pub loop-attr-preserved : goal.loop-attr-preserved
loop-attr-preserved c =
    one_more (range_texts (meaning_of c.args.policy.now) c.args.kind.now) c.args.attrs.now c.loop-attr.attr-index c.attr-item.result c.attr-item.is
    c.loop-attr-test.true c.loop-attr.invariant c.in_ok-range.ensures

pub returns : goal.returns
returns c = all_items (range_texts (meaning_of c.args.policy.now) c.args.kind.now) c.loop-attr.attr-index refl c.loop-attr-test.false c.loop-attr.invariant
