use Rattle.std.proofs.Common.{ap, ◌∙◌}
use Rattle.core_table.specs.declared.slots.Slot.TheVariants as slot
use Rattle.core_table.proofs.Calls.{put_in, slot_rounds}
use Rattle.core_table.proofs.steps.release_rounds.Goals as goal

pub unmark-requires-clause-newest : goal.unmark-requires-clause-newest
unmark-requires-clause-newest c =
    let h = c.requires.newest in let n = c.args.shared.now.key.plan.value.cores in
    let t = put_in c.args.place.now.me c.exchange.new.seat.me n c.args.cores h.0 h.1 _ (ap (λ p. p.cores) c.requires.table.of_opening.plan) c.exchange.ensures.3 (slot_rounds n c.args.cores h.0 c.requires.cores ∙ ap slot.Rounds h.3) h.2 in
    (h.0, h.1, t.0, t.1)
