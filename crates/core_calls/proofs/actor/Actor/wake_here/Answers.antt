use Rattle.std.proofs.Common.{ℕ, ◌<◌, ◌≡◌, arith, ap, ◌∙◌, sym, subst, refl, false}
use Rattle.policy_tree.specs.Meaning.{meaning_of}
use Rattle.round_model.specs.declared.entry.Entry.TheVariants as entry
use Rattle.round_model.specs.declared.plan.Plan.{Plan}
use Rattle.round_model.specs.Moves.{admitted, blocked_of, released}
use Rattle.round_model.specs.Scenes.{waking_next}
use Rattle.round_model.proofs.Moved.{blocked_found}
use Rattle.core_state.specs.Views.{CoreView}
use Rattle.core_table.specs.declared.views.View.{View}
use Rattle.core_table.specs.Public.{HasMoved, view_of}
use Rattle.core_table.specs.Told.{IsLocalIn}
use Rattle.core_table.specs.Views.{giving, holding, meaning_in, taken}
use Rattle.select_phase.proofs.Viewed.{placed_held}
use Rattle.core_calls.specs.Code.Sends.{due_in}
use Rattle.core_calls.proofs.Drawn.{adds_one, finished_count, glimpsed_count}
use Rattle.core_calls.proofs.Held.{due_blocked, may_return, task_wakes}
use Rattle.core_calls.proofs.Local.{wake_local}
use Rattle.core_calls.proofs.Marking.{none_due_one, none_named}
use Rattle.core_calls.proofs.Moving.{wake_moved}
use Rattle.core_calls.proofs.actor.Actor.wake_here.Goals as goal

pub returns-in_default-clause-woken : goal.returns-in_default-clause-woken
returns-in_default-clause-woken g c =
    let v = view_of c.args.seat.now in let self = c.args.self.now in let o = c.requires.seat.opening in let e = c.hold-held.ensures.held in let may = c.requires.may in
    let is_q : meaning_in v ≡ meaning_of self.policy.now = ap meaning_of (o.policy ∙ sym self.under) in let is_plan : v.plan ≡ self.plan.now = o.plan ∙ sym self.of in
    let low : self.core < v.plan.cores = subst (λ (x : Plan). self.core < x.cores) (sym o.plan) self.there in let y = c.hold-held.result.state in
    none_due_one self.core v may.of_core may.free y low (view_of c.release.new.seat) (c.release.ensures.home.view ∙ ap giving e.view)
    (none_named (waking_next v.round y.core) (ap (λ r. due_in r y.core) (sym c.requires.round) ∙ (sym c.due.ensures ∙ c.in_default.is)))

pub release_blocked-task-requires : goal.release_blocked-task-requires
release_blocked-task-requires g c =
    let v = view_of c.args.seat.now in let self = c.args.self.now in let o = c.requires.seat.opening in let e = c.hold-held.ensures.held in let may = c.requires.may in
    let is_q : meaning_in v ≡ meaning_of self.policy.now = ap meaning_of (o.policy ∙ sym self.under) in let is_plan : v.plan ≡ self.plan.now = o.plan ∙ sym self.of in
    let low : self.core < v.plan.cores = subst (λ (x : Plan). self.core < x.cores) (sym o.plan) self.there in let y = c.hold-held.result.state in
    let thread = c.in-Some.thread in let due = ap (λ r. due_in r y.core) (sym c.requires.round) ∙ (sym c.due.ensures ∙ c.in-Some.is) in
    due_blocked v.round thread y.core due

pub admit-requires-clause-task : goal.admit-requires-clause-task
admit-requires-clause-task g c =
    let v = view_of c.args.seat.now in let self = c.args.self.now in let o = c.requires.seat.opening in let e = c.hold-held.ensures.held in let may = c.requires.may in
    let is_q : meaning_in v ≡ meaning_of self.policy.now = ap meaning_of (o.policy ∙ sym self.under) in let is_plan : v.plan ≡ self.plan.now = o.plan ∙ sym self.of in
    let low : self.core < v.plan.cores = subst (λ (x : Plan). self.core < x.cores) (sym o.plan) self.there in let y = c.hold-held.result.state in
    let thread = c.in-Some.thread in let due = ap (λ r. due_in r y.core) (sym c.requires.round) ∙ (sym c.due.ensures ∙ c.in-Some.is) in
    task_wakes v (meaning_of self.policy.now) self.plan.now is_q is_plan self.core y low e.known v.round thread due c.release_blocked-task.result c.release_blocked-task.ensures.task

pub admit-requires-clause-consts : goal.admit-requires-clause-consts
admit-requires-clause-consts g c =
    let v = view_of c.args.seat.now in let self = c.args.self.now in let o = c.requires.seat.opening in let e = c.hold-held.ensures.held in let may = c.requires.may in
    let is_q : meaning_in v ≡ meaning_of self.policy.now = ap meaning_of (o.policy ∙ sym self.under) in let is_plan : v.plan ≡ self.plan.now = o.plan ∙ sym self.of in
    let low : self.core < v.plan.cores = subst (λ (x : Plan). self.core < x.cores) (sym o.plan) self.there in let y = c.hold-held.result.state in
    let thread = c.in-Some.thread in let due = ap (λ r. due_in r y.core) (sym c.requires.round) ∙ (sym c.due.ensures ∙ c.in-Some.is) in
    let can = may_return v (meaning_of self.policy.now) self.plan.now is_q is_plan self.core y low e.known v.round thread due c.release_blocked-task.new.self c.release_blocked-task.ensures.core in
    can.consts

pub admit-requires-clause-room : goal.admit-requires-clause-room
admit-requires-clause-room g c =
    let v = view_of c.args.seat.now in let self = c.args.self.now in let o = c.requires.seat.opening in let e = c.hold-held.ensures.held in let may = c.requires.may in
    let is_q : meaning_in v ≡ meaning_of self.policy.now = ap meaning_of (o.policy ∙ sym self.under) in let is_plan : v.plan ≡ self.plan.now = o.plan ∙ sym self.of in
    let low : self.core < v.plan.cores = subst (λ (x : Plan). self.core < x.cores) (sym o.plan) self.there in let y = c.hold-held.result.state in
    let thread = c.in-Some.thread in let due = ap (λ r. due_in r y.core) (sym c.requires.round) ∙ (sym c.due.ensures ∙ c.in-Some.is) in
    let can = may_return v (meaning_of self.policy.now) self.plan.now is_q is_plan self.core y low e.known v.round thread due c.release_blocked-task.new.self c.release_blocked-task.ensures.core in
    can.room

pub finish-requires-clause-moved : goal.finish-requires-clause-moved
finish-requires-clause-moved g c =
    let v = view_of c.args.seat.now in let self = c.args.self.now in let o = c.requires.seat.opening in let e = c.hold-held.ensures.held in let may = c.requires.may in
    let is_q : meaning_in v ≡ meaning_of self.policy.now = ap meaning_of (o.policy ∙ sym self.under) in let is_plan : v.plan ≡ self.plan.now = o.plan ∙ sym self.of in
    let low : self.core < v.plan.cores = subst (λ (x : Plan). self.core < x.cores) (sym o.plan) self.there in let y = c.hold-held.result.state in
    let thread = c.in-Some.thread in let due = ap (λ r. due_in r y.core) (sym c.requires.round) ∙ (sym c.due.ensures ∙ c.in-Some.is) in
    let z = c.admit.new.self in let found = blocked_found (blocked_of thread y.core) c.release_blocked-task.result c.release_blocked-task.ensures.task in
    subst (λ (x : View × ℕ). HasMoved (entry.Wake thread self.core self.core c.args.reads) x.0 x.1 z) (λ i. (sym e.view i, sym c.hold-held.ensures.core i))
    (wake_moved v self.core y z may.free low thread c.args.reads found.0 found.1
    (c.admit.ensures ∙ (ap (λ (x : CoreView). record x { core = admitted (meaning_of self.policy.now) false c.release_blocked-task.result x.core }) c.release_blocked-task.ensures.core
    ∙ (λ i. record y { core = admitted (sym is_q i) false (sym found.2 i) (released thread y.core) }))))

pub finish-requires-clause-legal : goal.finish-requires-clause-legal
finish-requires-clause-legal g c =
    let v = view_of c.args.seat.now in let self = c.args.self.now in let o = c.requires.seat.opening in let e = c.hold-held.ensures.held in let may = c.requires.may in
    let is_q : meaning_in v ≡ meaning_of self.policy.now = ap meaning_of (o.policy ∙ sym self.under) in let is_plan : v.plan ≡ self.plan.now = o.plan ∙ sym self.of in
    let low : self.core < v.plan.cores = subst (λ (x : Plan). self.core < x.cores) (sym o.plan) self.there in let y = c.hold-held.result.state in
    let thread = c.in-Some.thread in let due = ap (λ r. due_in r y.core) (sym c.requires.round) ∙ (sym c.due.ensures ∙ c.in-Some.is) in
    subst (λ (x : View). IsLocalIn x (entry.Wake thread self.core self.core c.args.reads)) (sym e.view)
    (wake_local (holding self.core y v) self.core low 0 (taken v.plan.cores self.core y) refl refl thread self.core c.args.reads may.entered due
    (placed_held self.core y v self.core self.core c.args.reads low c.requires.placed))

pub returns-clause-woken : goal.returns-clause-woken
returns-clause-woken g c =
    let v = view_of c.args.seat.now in let self = c.args.self.now in let o = c.requires.seat.opening in let e = c.hold-held.ensures.held in let may = c.requires.may in
    let is_q : meaning_in v ≡ meaning_of self.policy.now = ap meaning_of (o.policy ∙ sym self.under) in let is_plan : v.plan ≡ self.plan.now = o.plan ∙ sym self.of in
    let low : self.core < v.plan.cores = subst (λ (x : Plan). self.core < x.cores) (sym o.plan) self.there in let y = c.hold-held.result.state in
    let thread = c.in-Some.thread in let due = ap (λ r. due_in r y.core) (sym c.requires.round) ∙ (sym c.due.ensures ∙ c.in-Some.is) in
    record {
      thread = thread;
      to = self.core;
      adds = adds_one v self.core c.finish.result (entry.Wake thread self.core self.core c.args.reads) may.of_core may.free self.core y low
          (view_of c.hold-held.new.seat) (view_of c.finish.new.seat) e.view c.hold-held.result.core c.finish.ensures.finished;
    }

pub returns-in_default-clause-few : goal.returns-in_default-clause-few
returns-in_default-clause-few g c =
    let v = view_of c.args.seat.now in let self = c.args.self.now in let o = c.requires.seat.opening in let e = c.hold-held.ensures.held in
    let low : self.core < v.plan.cores = subst (λ (x : Plan). self.core < x.cores) (sym o.plan) self.there in
    let count = glimpsed_count self.core c.hold-held.result.state v (view_of c.release.new.seat) low (c.release.ensures.home.view ∙ ap giving e.view) in omega (arith, count)

pub returns-clause-few : goal.returns-clause-few
returns-clause-few g c =
    let v = view_of c.args.seat.now in let self = c.args.self.now in let o = c.requires.seat.opening in let e = c.hold-held.ensures.held in
    let low : self.core < v.plan.cores = subst (λ (x : Plan). self.core < x.cores) (sym o.plan) self.there in
    let count = finished_count self.core c.hold-held.result.state v (view_of c.hold-held.new.seat) (view_of c.finish.new.seat) low e.view
    (entry.Wake c.in-Some.thread self.core self.core c.args.reads) c.hold-held.result.core c.finish.result c.finish.ensures.finished in
    omega (arith, count)
