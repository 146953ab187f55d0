use Rattle.std.proofs.Common.{◌∙◌}
use Rattle.std.proofs.lemmas.Grind.{merely}
use Rattle.core_table.proofs.Known.{drawn_known, drawn_live, drawn_slots, drawn_start}
use Rattle.core_table.proofs.Positions.{above}
use Rattle.core_table.proofs.seat.Table.write_entry.Goals as goal

pub invariant_of-seat : goal.invariant_of-seat
invariant_of-seat c = let s = c.args.seat.now in let d = c.draw.ensures.drawn in let e = c.args.entry.now in let v = s.place.me.0 in let w = c.draw.new.place.me.0 in record {
  carries = d.1 ∙ (s.carries ∙ drawn_slots e v w c.draw.result d.0);
  starts = s.starts ∙ drawn_start e v w c.draw.result d.0;
  live = drawn_live e v w c.draw.result d.0 s.live;
  known = merely (drawn_known e v w c.draw.result d.0);
}

pub returns-clause-above : goal.returns-clause-above
returns-clause-above c = let d = c.draw.ensures.drawn.0 in above c.args.seat.now.place.me.0 d.history c.draw.result d.before d.at d.below
