use Rattle.std.proofs.Common.{◌∙◌, sym, subst, ap}
use Rattle.policy_tree.specs.Meaning.{meaning_of}
use Rattle.round_model.specs.declared.entry.Entry.{Entry}
use Rattle.round_model.specs.Attempts.{steal_or_fail}
use Rattle.core_table.specs.Pairs.{holding_two}
use Rattle.core_table.specs.Plays.{Draws}
use Rattle.core_table.specs.Public.{plan_of, view_of}
use Rattle.steal_phase.proofs.Added.{added_two}
use Rattle.steal_phase.proofs.Drawn.{contest_drawn, contested_by, victim_there}
use Rattle.steal_phase.proofs.Moving.{legal_as, moved_as}
use Rattle.steal_phase.proofs.Two.{two_held}
use Rattle.steal_phase.proofs.contests.contest.Goals as goal

pub take_best-stolen-requires : goal.take_best-stolen-requires
take_best-stolen-requires g c =
    let v = view_of c.args.seat.now in let look = c.args.look in let e = c.hold_two-held.ensures in let held = c.hold_two-held.result in let o = c.requires.seat.opening in
    let there = victim_there v look c.args.from c.requires.may.looked c.requires.choice in
    two_held v (meaning_of c.args.policy.now) (plan_of c.args.table.now) look.by c.args.from held.first.core held.second.core held.first.state held.second.state
    (ap meaning_of (o.policy ∙ sym c.requires.policy)) o.plan e.first e.second (λ same. there.1 (sym same)) c.requires.may.looked.core there.0 e.held.known

pub draw_two-at-requires-clause-moved : goal.draw_two-at-requires-clause-moved
draw_two-at-requires-clause-moved g c =
    let v = view_of c.args.seat.now in let look = c.args.look in let from = c.args.from in let e = c.hold_two-held.ensures in let held = c.hold_two-held.result in let o = c.requires.seat.opening in
    let t = c.take_best-stolen.ensures in let thief = c.take_best-stolen.new.thief in let victim = c.take_best-stolen.new.victim in let threads = c.take_best-stolen.result in
    let contest = contested_by v look from c.requires.may c.requires.choice held.first.state held.second.state thief.state victim.state threads
    (meaning_of c.args.policy.now) (plan_of c.args.table.now) held.first.core held.second.core (ap meaning_of (c.requires.policy ∙ sym o.policy)) (sym o.plan) e.first e.second t.threads t.taken in
    moved_as (steal_or_fail look.by from look.reads threads) c.steal_or_fail-entry.result (holding_two look.by held.first.state from held.second.state v) (view_of c.hold_two-held.new.seat)
    look.by from thief.core victim.core thief.state victim.state c.steal_or_fail-entry.ensures e.held.view (t.cores.0 ∙ e.first) (t.cores.1 ∙ e.second) contest.moved

pub draw_two-at-requires-clause-legal : goal.draw_two-at-requires-clause-legal
draw_two-at-requires-clause-legal g c =
    let v = view_of c.args.seat.now in let look = c.args.look in let from = c.args.from in let e = c.hold_two-held.ensures in let held = c.hold_two-held.result in let o = c.requires.seat.opening in
    let t = c.take_best-stolen.ensures in let thief = c.take_best-stolen.new.thief in let victim = c.take_best-stolen.new.victim in let threads = c.take_best-stolen.result in
    let contest = contested_by v look from c.requires.may c.requires.choice held.first.state held.second.state thief.state victim.state threads
    (meaning_of c.args.policy.now) (plan_of c.args.table.now) held.first.core held.second.core (ap meaning_of (c.requires.policy ∙ sym o.policy)) (sym o.plan) e.first e.second t.threads t.taken in
    legal_as (steal_or_fail look.by from look.reads threads) c.steal_or_fail-entry.result (holding_two look.by held.first.state from held.second.state v) (view_of c.hold_two-held.new.seat)
    c.steal_or_fail-entry.ensures e.held.view contest.legal

pub returns-clause-drawn : goal.returns-clause-drawn
returns-clause-drawn g c =
    let v = view_of c.args.seat.now in let look = c.args.look in let from = c.args.from in let e = c.hold_two-held.ensures in let held = c.hold_two-held.result in let o = c.requires.seat.opening in
    let t = c.take_best-stolen.ensures in let thief = c.take_best-stolen.new.thief in let victim = c.take_best-stolen.new.victim in let threads = c.take_best-stolen.result in
    let contest = contested_by v look from c.requires.may c.requires.choice held.first.state held.second.state thief.state victim.state threads
    (meaning_of c.args.policy.now) (plan_of c.args.table.now) held.first.core held.second.core (ap meaning_of (c.requires.policy ∙ sym o.policy)) (sym o.plan) e.first e.second t.threads t.taken in
    let w = view_of c.hold_two-held.new.seat in let u = view_of c.draw_two-at.new.seat in
    contest_drawn v look from c.requires.may c.requires.choice held.first.state held.second.state thief.state victim.state threads w u c.draw_two-at.result
    contest e.held.view (subst (λ (x : Entry). Draws x w c.draw_two-at.result u) c.steal_or_fail-entry.ensures c.draw_two-at.ensures.drawn)

pub returns-clause-added : goal.returns-clause-added
returns-clause-added g c =
    let v = view_of c.args.seat.now in let look = c.args.look in let e = c.hold_two-held.ensures in let held = c.hold_two-held.result in let last = c.draw_two-at.new.held in
    let w = view_of c.hold_two-held.new.seat in let u = view_of c.draw_two-at.new.seat in
    added_two v look.by c.draw_two-at.result (steal_or_fail look.by c.args.from look.reads c.take_best-stolen.result) c.requires.may.ready.of_core
    look.by held.first.state c.args.from held.second.state last.first.core last.first.state last.second.core last.second.state
    w u (view_of c.publish_two.new.seat) (view_of c.release_two.new.seat)
    e.held.view (subst (λ (x : Entry). Draws x w c.draw_two-at.result u) c.steal_or_fail-entry.ensures c.draw_two-at.ensures.drawn) c.publish_two.ensures.seen.view c.release_two.ensures.home.view c.release_two.ensures.free
