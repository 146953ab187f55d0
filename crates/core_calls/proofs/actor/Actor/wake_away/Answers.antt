use Rattle.std.proofs.Common.{ℕ, ◌<◌, ◌≡◌, ◌≢◌, Option, ap, ◌∙◌, sym, subst, refl, arith}
use Rattle.policy_tree.specs.Meaning.{meaning_of}
use Rattle.round_model.specs.declared.entry.Entry.TheVariants as entry
use Rattle.round_model.specs.declared.plan.Plan.{Plan}
use Rattle.core_table.specs.declared.views.View.{View}
use Rattle.core_table.specs.Pairs.{holding_two, stacked}
use Rattle.core_table.specs.Public.{plan_of, policy_of, view_of}
use Rattle.core_table.specs.Told.{IsLocalIn}
use Rattle.core_table.specs.Views.{giving, meaning_in, taken}
use Rattle.steal_phase.proofs.Moving.{moved_as}
use Rattle.steal_phase.proofs.Two.{two_held}
use Rattle.core_calls.specs.Actors.{table_of}
use Rattle.core_calls.specs.Code.Sends.{Sends}
use Rattle.core_calls.proofs.Drawn.{adds_two, two_finished_count, two_glimpsed_count}
use Rattle.core_calls.proofs.Sending.{none_over, sent_over}
use Rattle.core_calls.proofs.actor.Actor.wake_away.Goals as goal

pub send_due-requires : goal.send_due-requires
send_due-requires g c =
    let v = view_of c.args.seat.now in let self = c.args.self.now in let o = c.requires.seat.opening in let e = c.hold_two-held.ensures in let may = c.requires.may in
    let at = c.args.at in let reads = c.args.reads in let held = c.hold_two-held.result in
    let inside : self.core < v.plan.cores = subst (λ (x : Plan). self.core < x.cores) (sym o.plan) self.there in let apart : self.core ≢ at = λ same. c.requires.away (sym same) in
    two_held v (meaning_of (policy_of (table_of self))) (plan_of (table_of self)) self.core at held.first.core held.second.core held.first.state held.second.state
    (ap meaning_of o.policy) o.plan e.first e.second apart inside c.requires.placed.there e.held.known

pub release_two-requires-clause-newest : goal.release_two-requires-clause-newest
release_two-requires-clause-newest g c =
    let v = view_of c.args.seat.now in let self = c.args.self.now in let o = c.requires.seat.opening in let e = c.hold_two-held.ensures in let may = c.requires.may in
    let at = c.args.at in let reads = c.args.reads in let held = c.hold_two-held.result in
    let inside : self.core < v.plan.cores = subst (λ (x : Plan). self.core < x.cores) (sym o.plan) self.there in let apart : self.core ≢ at = λ same. c.requires.away (sym same) in
    let own = c.send_due.new.from in let other = c.send_due.new.to in
    let p = meaning_of (policy_of (table_of self)) in let is_p : p ≡ meaning_in v = ap meaning_of (sym o.policy) in
    let sends = subst (λ (x : Option ℕ). Sends p c.args.round x held.first.state held.second.state own.state other.state) c.in_default.is c.send_due.ensures.sent in
    let cores = c.send_due.ensures.cores in let w = view_of c.hold_two-held.new.seat in let n : w.plan.cores ≡ v.plan.cores = ap (λ (x : View). x.plan.cores) e.held.view in
    ap (λ (x : View). x.held) e.held.view
    ∙ (λ i. stacked (sym (cores.0 ∙ e.first) i) (sym (cores.1 ∙ e.second) i)
    (taken (sym n i) (sym (cores.0 ∙ e.first) i) (sym sends.sent.0 i)) (taken (sym n i) (sym (cores.1 ∙ e.second) i) (sym sends.sent.1 i)) (c.requires.may.free i))

pub returns-in_default-clause-woken : goal.returns-in_default-clause-woken
returns-in_default-clause-woken g c =
    let v = view_of c.args.seat.now in let self = c.args.self.now in let o = c.requires.seat.opening in let e = c.hold_two-held.ensures in let may = c.requires.may in
    let at = c.args.at in let reads = c.args.reads in let held = c.hold_two-held.result in
    let inside : self.core < v.plan.cores = subst (λ (x : Plan). self.core < x.cores) (sym o.plan) self.there in let apart : self.core ≢ at = λ same. c.requires.away (sym same) in
    let own = c.send_due.new.from in let other = c.send_due.new.to in
    let p = meaning_of (policy_of (table_of self)) in let is_p : p ≡ meaning_in v = ap meaning_of (sym o.policy) in
    let sends = subst (λ (x : Option ℕ). Sends p c.args.round x held.first.state held.second.state own.state other.state) c.in_default.is c.send_due.ensures.sent in
    none_over v self.core at reads may c.requires.placed inside apart held.first.state held.second.state own.state other.state p c.args.round is_p c.requires.round sends
    (view_of c.release_two.new.seat) (c.release_two.ensures.home.view ∙ ap (λ (x : View). giving (giving x)) e.held.view)

pub draw_two-position-requires-clause-moved : goal.draw_two-position-requires-clause-moved
draw_two-position-requires-clause-moved g c =
    let v = view_of c.args.seat.now in let self = c.args.self.now in let o = c.requires.seat.opening in let e = c.hold_two-held.ensures in let may = c.requires.may in
    let at = c.args.at in let reads = c.args.reads in let held = c.hold_two-held.result in
    let inside : self.core < v.plan.cores = subst (λ (x : Plan). self.core < x.cores) (sym o.plan) self.there in let apart : self.core ≢ at = λ same. c.requires.away (sym same) in
    let own = c.send_due.new.from in let other = c.send_due.new.to in
    let p = meaning_of (policy_of (table_of self)) in let is_p : p ≡ meaning_in v = ap meaning_of (sym o.policy) in
    let sends = subst (λ (x : Option ℕ). Sends p c.args.round x held.first.state held.second.state own.state other.state) c.in-Some.is c.send_due.ensures.sent in
    let sent = sent_over v self.core at reads may c.requires.placed inside apart held.first.state held.second.state own.state other.state p c.args.round is_p c.requires.round c.in-Some.thread sends in
    let cores = c.send_due.ensures.cores in let e_now = entry.Wake c.in-Some.thread self.core at reads in
    moved_as e_now e_now (holding_two self.core held.first.state at held.second.state v) (view_of c.hold_two-held.new.seat)
    self.core at own.core other.core own.state other.state refl e.held.view (cores.0 ∙ e.first) (cores.1 ∙ e.second) sent.moved

pub draw_two-position-requires-clause-legal : goal.draw_two-position-requires-clause-legal
draw_two-position-requires-clause-legal g c =
    let v = view_of c.args.seat.now in let self = c.args.self.now in let o = c.requires.seat.opening in let e = c.hold_two-held.ensures in let may = c.requires.may in
    let at = c.args.at in let reads = c.args.reads in let held = c.hold_two-held.result in
    let inside : self.core < v.plan.cores = subst (λ (x : Plan). self.core < x.cores) (sym o.plan) self.there in let apart : self.core ≢ at = λ same. c.requires.away (sym same) in
    let own = c.send_due.new.from in let other = c.send_due.new.to in
    let p = meaning_of (policy_of (table_of self)) in let is_p : p ≡ meaning_in v = ap meaning_of (sym o.policy) in
    let sends = subst (λ (x : Option ℕ). Sends p c.args.round x held.first.state held.second.state own.state other.state) c.in-Some.is c.send_due.ensures.sent in
    let sent = sent_over v self.core at reads may c.requires.placed inside apart held.first.state held.second.state own.state other.state p c.args.round is_p c.requires.round c.in-Some.thread sends in
    subst (λ (x : View). IsLocalIn x (entry.Wake c.in-Some.thread self.core at reads)) (sym e.held.view) sent.legal

pub returns-clause-woken : goal.returns-clause-woken
returns-clause-woken g c =
    let v = view_of c.args.seat.now in let self = c.args.self.now in let e = c.hold_two-held.ensures in let may = c.requires.may in
    let held = c.hold_two-held.result in let last = c.draw_two-position.new.held in
    record {
      thread = c.in-Some.thread;
      to = c.args.at;
      adds = adds_two v self.core c.draw_two-position.result (entry.Wake c.in-Some.thread self.core c.args.at c.args.reads) may.of_core may.free self.core held.first.state c.args.at held.second.state
          last.first.core last.first.state last.second.core last.second.state
          (view_of c.hold_two-held.new.seat) (view_of c.draw_two-position.new.seat) (view_of c.publish_two.new.seat) (view_of c.release_two-2.new.seat)
          e.held.view c.draw_two-position.ensures.drawn c.publish_two.ensures.seen.view c.release_two-2.ensures.home.view c.release_two-2.ensures.free;
    }

pub returns-in_default-clause-few : goal.returns-in_default-clause-few
returns-in_default-clause-few g c =
    let v = view_of c.args.seat.now in let e = c.hold_two-held.ensures in let held = c.hold_two-held.result in
    let count = two_glimpsed_count c.args.self.now.core held.first.state c.args.at held.second.state v (view_of c.release_two.new.seat)
    (c.release_two.ensures.home.view ∙ ap (λ (x : View). giving (giving x)) e.held.view) in
    omega (arith, count)

pub returns-clause-few : goal.returns-clause-few
returns-clause-few g c =
    let v = view_of c.args.seat.now in let self = c.args.self.now in let e = c.hold_two-held.ensures in
    let held = c.hold_two-held.result in let last = c.draw_two-position.new.held in
    let count = two_finished_count self.core held.first.state c.args.at held.second.state v (view_of c.hold_two-held.new.seat) (view_of c.draw_two-position.new.seat)
    (view_of c.publish_two.new.seat) (view_of c.release_two-2.new.seat) e.held.view (entry.Wake c.in-Some.thread self.core c.args.at c.args.reads) c.draw_two-position.result
    c.draw_two-position.ensures.drawn last.first.core last.first.state last.second.core last.second.state c.publish_two.ensures.seen.view c.release_two-2.ensures.home.view in
    omega (arith, count)
