use Rattle.std.proofs.Common.{sym, ◌∙◌}
use Rattle.std.proofs.lemmas.Grind.{merely}
use Rattle.core_table.proofs.Positions.{above}
use Rattle.core_table.proofs.Rounding.{after_known, after_live, after_slots, after_start}
use Rattle.core_table.proofs.seat.Table.draw_round.Goals as goal

pub invariant_of-seat : goal.invariant_of-seat
invariant_of-seat g c = let e = c.write_round-at.ensures in let v = c.args.seat.now.place.me.0 in let w = c.write_round-at.new.place.me.0 in let n = c.args.number in let at = c.write_round-at.result in record {
  carries = e.slots ∙ sym (after_slots n v w at e.begun c.requires.free);
  starts = after_start n v w at e.begun;
  live = after_live n v w at e.begun;
  known = merely (after_known n v w at e.begun);
}

pub returns-clause-above : goal.returns-clause-above
returns-clause-above g c = let d = c.write_round-at.ensures.begun in above c.args.seat.now.place.me.0 d.history c.write_round-at.result d.before d.at d.below
