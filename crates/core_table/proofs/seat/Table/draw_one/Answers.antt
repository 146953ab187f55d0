use Rattle.std.proofs.Common.{ap, sym, ◌∙◌}
use lib.ListN.{get_elem?}
use Rattle.core_table.proofs.Known.{moved_room}
use Rattle.core_table.proofs.seat.Table.draw_one.Goals as goal

pub write_entry-at-requires-clause-touched : goal.write_entry-at-requires-clause-touched
write_entry-at-requires-clause-touched c d low is = let h = c.requires.moved in record { place = 0; of = h.of; there = ap (λ l. get_elem? l 0) h.only; core = h.core ∙ sym (h.alone d is) }

pub log-requires-clause-room : goal.log-requires-clause-room
log-requires-clause-room c = let h = c.requires.moved in let d = c.write_entry-at.ensures.drawn in (moved_room c.args.entry c.args.seat.now.place.me.0 c.write_entry-at.new.seat.place.me.0 c.write_entry-at.result d 0 h.of c.args.held.now.state (ap (λ l. get_elem? l 0) h.only) h.is).0

pub log-requires-clause-later : goal.log-requires-clause-later
log-requires-clause-later c = let h = c.requires.moved in let d = c.write_entry-at.ensures.drawn in (moved_room c.args.entry c.args.seat.now.place.me.0 c.write_entry-at.new.seat.place.me.0 c.write_entry-at.result d 0 h.of c.args.held.now.state (ap (λ l. get_elem? l 0) h.only) h.is).1
