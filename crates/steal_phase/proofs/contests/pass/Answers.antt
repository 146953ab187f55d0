use Rattle.std.proofs.Common.{ℕ, sym, subst, ap}
use lib.ListN.{get_elem?}
use Rattle.round_model.specs.declared.entry.Entry.TheVariants as entry
use Rattle.core_table.specs.declared.views.View.{View}
use Rattle.core_table.specs.Public.{HasMoved, view_of}
use Rattle.core_table.specs.Told.{IsLocalIn}
use Rattle.steal_phase.proofs.Added.{added_one}
use Rattle.steal_phase.proofs.Drawn.{pass_drawn, pass_local}
use Rattle.steal_phase.proofs.Moving.{moved_pass}
use Rattle.steal_phase.proofs.contests.pass.Goals as goal

pub draw_one-at-requires-clause-moved : goal.draw_one-at-requires-clause-moved
draw_one-at-requires-clause-moved g c =
    let v = view_of c.args.seat.now in let look = c.args.look in let e = c.hold-held.ensures in
    subst (λ (x : View × ℕ). HasMoved (entry.Pass look.by look.reads) x.0 x.1 c.hold-held.result.state) (λ i. (sym e.held.view i, sym e.core i))
    (moved_pass v look.by c.hold-held.result.state look.reads c.requires.may.ready.free c.requires.may.looked.core)

pub draw_one-at-requires-clause-legal : goal.draw_one-at-requires-clause-legal
draw_one-at-requires-clause-legal g c =
    let look = c.args.look in
    subst (λ (x : View). IsLocalIn x (entry.Pass look.by look.reads)) (sym c.hold-held.ensures.held.view) (pass_local (view_of c.args.seat.now) look c.hold-held.result.state c.requires.may c.requires.choice)

pub publish-requires-clause-held : goal.publish-requires-clause-held
publish-requires-clause-held g c = let one = c.draw_one-at.ensures.held in record { place = 0; of = one.of; there = ap (λ l. get_elem? l 0) one.held; core = one.core; state = one.state }

pub returns-clause-drawn : goal.returns-clause-drawn
returns-clause-drawn g c =
    pass_drawn (view_of c.args.seat.now) c.args.look c.hold-held.result.state (view_of c.hold-held.new.seat) (view_of c.draw_one-at.new.seat) c.draw_one-at.result
    c.requires.may c.requires.choice c.hold-held.ensures.held.view c.draw_one-at.ensures.drawn

pub returns-clause-added : goal.returns-clause-added
returns-clause-added g c =
    let v = view_of c.args.seat.now in let look = c.args.look in let held = c.draw_one-at.new.held in
    added_one v look.by c.draw_one-at.result (entry.Pass look.by look.reads) c.requires.may.ready.of_core look.by c.hold-held.result.state held.core held.state c.requires.may.ready.free c.requires.may.looked.core
    (view_of c.hold-held.new.seat) (view_of c.draw_one-at.new.seat) (view_of c.publish.new.seat) (view_of c.release.new.seat)
    c.hold-held.ensures.held.view c.draw_one-at.ensures.drawn c.publish.ensures.seen.view c.release.ensures.home.view
