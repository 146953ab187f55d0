use Rattle.std.proofs.Common.{List, [], ap, sym, subst, ◌∙◌, ⊎_elim}
use lib.ListN.{get_elem?}
use Rattle.core_table.specs.declared.views.HeldCore.{HeldCore}
use Rattle.core_state.specs.Views.{CoreView}
use Rattle.core_table.specs.Pairs.{HasTwo}
use Rattle.core_table.specs.Public.{view_of}
use Rattle.core_table.proofs.Known.{moved_room}
use Rattle.core_table.proofs.TwoHeld.{drawn_two, first_place, second_place}
use Rattle.core_table.proofs.seat.Table.draw_two.Goals as goal

pub write_entry-at-requires-clause-touched : goal.write_entry-at-requires-clause-touched
write_entry-at-requires-clause-touched c d below is =
    let h = c.requires.moved in let b = c.args.held.now.first.core in let k = c.args.held.now.second.core in
    let at = first_place b k h.first h.second [] in let there = second_place b k h.first h.second [] in ⊎_elim
    (λ first. record { place = at.0; of = h.first; there = ap (λ (l : List HeldCore). get_elem? l at.0) h.only ∙ at.1; core = h.first_core ∙ sym first })
    (λ second. record { place = there.0; of = h.second; there = ap (λ (l : List HeldCore). get_elem? l there.0) h.only ∙ there.1; core = h.second_core ∙ sym second })
    (h.alone d is)

pub log-requires-clause-room : goal.log-requires-clause-room
log-requires-clause-room c =
    let h = c.requires.moved in let held = c.args.held.now in let at = first_place held.first.core held.second.core h.first h.second [] in
    (moved_room c.args.entry (view_of c.args.seat.now) (view_of c.write_entry-at.new.seat) c.write_entry-at.result c.write_entry-at.ensures.drawn at.0 h.first held.first.state
    (ap (λ (l : List HeldCore). get_elem? l at.0) h.only ∙ at.1) h.first_is).0

pub log-requires-clause-later : goal.log-requires-clause-later
log-requires-clause-later c =
    let h = c.requires.moved in let held = c.args.held.now in let at = first_place held.first.core held.second.core h.first h.second [] in
    (moved_room c.args.entry (view_of c.args.seat.now) (view_of c.write_entry-at.new.seat) c.write_entry-at.result c.write_entry-at.ensures.drawn at.0 h.first held.first.state
    (ap (λ (l : List HeldCore). get_elem? l at.0) h.only ∙ at.1) h.first_is).1

pub log-requires-2-clause-room : goal.log-requires-2-clause-room
log-requires-2-clause-room c =
    let h = c.requires.moved in let held = c.args.held.now in let at = second_place held.first.core held.second.core h.first h.second [] in
    (moved_room c.args.entry (view_of c.args.seat.now) (view_of c.write_entry-at.new.seat) c.write_entry-at.result c.write_entry-at.ensures.drawn at.0 h.second held.second.state
    (ap (λ (l : List HeldCore). get_elem? l at.0) h.only ∙ at.1) h.second_is).0

pub log-requires-2-clause-later : goal.log-requires-2-clause-later
log-requires-2-clause-later c =
    let h = c.requires.moved in let held = c.args.held.now in let at = second_place held.first.core held.second.core h.first h.second [] in
    (moved_room c.args.entry (view_of c.args.seat.now) (view_of c.write_entry-at.new.seat) c.write_entry-at.result c.write_entry-at.ensures.drawn at.0 h.second held.second.state
    (ap (λ (l : List HeldCore). get_elem? l at.0) h.only ∙ at.1) h.second_is).1

pub returns-clause-held : goal.returns-clause-held
returns-clause-held c =
    let held = c.args.held.now in let w = view_of c.write_entry-at.new.seat in
    subst (λ (x : CoreView × CoreView). HasTwo w held.first.core x.0 held.second.core x.1) (λ i. (sym c.log.ensures i, sym c.log-2.ensures i))
    (drawn_two c.args.entry (view_of c.args.seat.now) w c.write_entry-at.result c.write_entry-at.ensures.drawn held.first.core held.first.state held.second.core held.second.state c.requires.moved)
