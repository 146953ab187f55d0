-- The first put and those of what it left put the piece.
use Rattle.sched_io.proofs.PieceLemmas.{puts_piece}
use Rattle.sched_io.proofs.sinks.put_all.Goals as goal

pub returns : goal.returns
returns g c =
    let rest = c.put_rest.ensures in
    puts_piece c.args.piece.now c.split_at.result.1.now c.in_ok-count.count _ _ _ c.in_ok-count.ensures.takes c.split_at.ensures.back
    rest.silent rest.idle c.put_rest.result rest.whole rest.steady rest.part rest.fault rest.some
