use Rattle.trace_printer.proofs.AddsLemmas.{one_at, all_numbers, word_of}
use Rattle.trace_printer.proofs.text.Text.cores.Goals as goal

pub loop-core-preserved : goal.loop-core-preserved
loop-core-preserved c =
    one_at word_of c.args.cores.now c.loop-core.core-index 0 c.loop-core-test.true c.loop-core.invariant
    c.in_ok-number.ensures

pub returns : goal.returns
returns c = all_numbers c.args.cores.now c.loop-core.core-index c.loop-core-test.false c.loop-core.invariant
