use Rattle.trace_printer.specs.Printed.{words_of_const}
use Rattle.trace_printer.proofs.AddsLemmas.{one_more, all_items}
use Rattle.trace_printer.proofs.text.Text.consts.Goals as goal

pub loop-given-preserved : goal.loop-given-preserved
loop-given-preserved c =
    one_more words_of_const c.args.consts.now c.loop-given.given-index c.given-item.result c.given-item.is
    c.loop-given-test.true c.loop-given.invariant c.in_ok-given.ensures

pub returns : goal.returns
returns c =
    all_items words_of_const c.args.consts.now c.loop-given.given-index c.loop-given-test.false c.loop-given.invariant
