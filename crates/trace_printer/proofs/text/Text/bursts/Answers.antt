use Rattle.trace_printer.specs.Printed.{words_of_burst}
use Rattle.trace_printer.proofs.AddsLemmas.{one_at, all_items}
use Rattle.trace_printer.proofs.text.Text.bursts.Goals as goal

pub loop-burst-preserved : goal.loop-burst-preserved
loop-burst-preserved c =
    one_at words_of_burst c.args.bursts.now c.loop-burst.burst-index _ c.loop-burst-test.true c.loop-burst.invariant
    c.in_ok-burst.ensures

pub returns : goal.returns
returns c =
    all_items words_of_burst c.args.bursts.now c.loop-burst.burst-index c.loop-burst-test.false c.loop-burst.invariant
