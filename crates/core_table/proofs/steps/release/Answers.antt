use Rattle.std.proofs.Common.{ap}
use Rattle.core_table.proofs.Calls.{put_in, slot_core}
use Rattle.core_table.proofs.steps.release.Goals as goal

pub unmark-requires-clause-newest : goal.unmark-requires-clause-newest
unmark-requires-clause-newest c =
    let h = c.requires.newest in let n = c.args.shared.now.key.plan.value.cores in
    let t = put_in c.args.place.now.me c.exchange.new.seat.me n c.args.core c.args.state h.0 _ (ap (λ p. p.cores) c.requires.table.of_opening.plan) c.exchange.ensures.3 (slot_core n c.args.core c.args.state c.requires.core) h.1 in
    (c.args.state, h.0, t.0, t.1)
