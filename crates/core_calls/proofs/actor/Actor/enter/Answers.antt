use Rattle.std.proofs.Common.{ℕ, ◌<◌, ◌≡◌, arith, is_some, ap, ◌∙◌, sym, subst, true, false}
use Rattle.std.specs.Prelude.{IsSomeAnd}
use Rattle.policy_tree.specs.Meaning.{Meaning, meaning_of}
use Rattle.round_model.specs.declared.entry.Entry.TheVariants as entry
use Rattle.round_model.specs.declared.plan.Plan.{Plan}
use Rattle.round_model.specs.declared.plan.Planned.{Planned}
use Rattle.round_model.specs.Moves.{admitted}
use Rattle.round_model.specs.Programs.{entering_task, planned_of}
use Rattle.round_model.specs.Scenes.{entering_next}
use Rattle.core_table.specs.declared.views.View.{View}
use Rattle.core_table.specs.Public.{HasMoved, view_of}
use Rattle.core_table.specs.Told.{IsLocalIn}
use Rattle.core_table.specs.Views.{holding, meaning_in}
use Rattle.select_phase.proofs.Viewed.{placed_held}
use Rattle.steal_phase.specs.Attempts.{own_entries_in}
use Rattle.core_calls.proofs.Drawn.{adds_behind, adds_one, finished_count, noted_only}
use Rattle.core_calls.proofs.Held.{enters_plan, may_come, task_enters}
use Rattle.core_calls.proofs.Local.{enter_local}
use Rattle.core_calls.proofs.Moving.{enter_moved}
use Rattle.core_calls.proofs.actor.Actor.enter.Goals as goal

pub unreachable-requires : goal.unreachable-requires
unreachable-requires g c =
    let v = view_of c.args.seat.now in let w = view_of c.place-at.new.seat in let self = c.args.self.now in let more = c.place-at.ensures.seat.1 in let o = c.place-at.ensures.seat.0.opening in
    let thread = c.args.thread in let at = c.place-at.result.0 in let reads = c.place-at.result.1 in let may = c.requires.may in
    let is_q : meaning_in w ≡ meaning_of self.policy.now = ap meaning_of (o.policy ∙ sym self.under) in let is_plan : w.plan ≡ self.plan.now = o.plan ∙ sym self.of in
    let own : self.core < w.plan.cores = subst (λ (x : Plan). self.core < x.cores) (sym o.plan) self.there in
    let seen = noted_only self.core v w may.of_core may.free more in
    let next = subst (λ (x : View). IsSomeAnd (entering_next x.plan x.round self.core (own_entries_in x)) (λ (t : Planned). t.id ≡ thread)) (sym more.is) may.next in
    let some = enters_plan w self.plan.now self.core thread is_plan next in
    let none : is_some (planned_of self.plan.now thread) ≡ false = ap is_some c.in_default.ensures in
    absurd (cc)

pub admit-requires-clause-task : goal.admit-requires-clause-task
admit-requires-clause-task g c =
    let v = view_of c.args.seat.now in let w = view_of c.place-at.new.seat in let self = c.args.self.now in let more = c.place-at.ensures.seat.1 in let o = c.place-at.ensures.seat.0.opening in
    let thread = c.args.thread in let at = c.place-at.result.0 in let reads = c.place-at.result.1 in let may = c.requires.may in
    let is_q : meaning_in w ≡ meaning_of self.policy.now = ap meaning_of (o.policy ∙ sym self.under) in let is_plan : w.plan ≡ self.plan.now = o.plan ∙ sym self.of in
    let own : self.core < w.plan.cores = subst (λ (x : Plan). self.core < x.cores) (sym o.plan) self.there in
    let seen = noted_only self.core v w may.of_core may.free more in
    let next = subst (λ (x : View). IsSomeAnd (entering_next x.plan x.round self.core (own_entries_in x)) (λ (t : Planned). t.id ≡ thread)) (sym more.is) may.next in
    let e = c.hold-held.ensures.held in let y = c.hold-held.result.state in let low = c.place-at.ensures.placed.there in
    task_enters w (meaning_of self.policy.now) self.plan.now is_q is_plan at y low e.known thread c.in-Some.planned.now c.entering_task.result c.in-Some.ensures c.entering_task.ensures

pub admit-requires-clause-consts : goal.admit-requires-clause-consts
admit-requires-clause-consts g c =
    let v = view_of c.args.seat.now in let w = view_of c.place-at.new.seat in let self = c.args.self.now in let more = c.place-at.ensures.seat.1 in let o = c.place-at.ensures.seat.0.opening in
    let thread = c.args.thread in let at = c.place-at.result.0 in let reads = c.place-at.result.1 in let may = c.requires.may in
    let is_q : meaning_in w ≡ meaning_of self.policy.now = ap meaning_of (o.policy ∙ sym self.under) in let is_plan : w.plan ≡ self.plan.now = o.plan ∙ sym self.of in
    let own : self.core < w.plan.cores = subst (λ (x : Plan). self.core < x.cores) (sym o.plan) self.there in
    let seen = noted_only self.core v w may.of_core may.free more in
    let next = subst (λ (x : View). IsSomeAnd (entering_next x.plan x.round self.core (own_entries_in x)) (λ (t : Planned). t.id ≡ thread)) (sym more.is) may.next in
    let e = c.hold-held.ensures.held in let y = c.hold-held.result.state in let low = c.place-at.ensures.placed.there in
    let local = enter_local (holding at y w) self.core own thread at reads next (placed_held at y w self.core at reads low c.place-at.ensures.placed) in
    let can = may_come w (meaning_of self.policy.now) self.plan.now is_q is_plan at y low e.known self.core thread reads seen.of_core local in
    can.consts

pub admit-requires-clause-room : goal.admit-requires-clause-room
admit-requires-clause-room g c =
    let v = view_of c.args.seat.now in let w = view_of c.place-at.new.seat in let self = c.args.self.now in let more = c.place-at.ensures.seat.1 in let o = c.place-at.ensures.seat.0.opening in
    let thread = c.args.thread in let at = c.place-at.result.0 in let reads = c.place-at.result.1 in let may = c.requires.may in
    let is_q : meaning_in w ≡ meaning_of self.policy.now = ap meaning_of (o.policy ∙ sym self.under) in let is_plan : w.plan ≡ self.plan.now = o.plan ∙ sym self.of in
    let own : self.core < w.plan.cores = subst (λ (x : Plan). self.core < x.cores) (sym o.plan) self.there in
    let seen = noted_only self.core v w may.of_core may.free more in
    let next = subst (λ (x : View). IsSomeAnd (entering_next x.plan x.round self.core (own_entries_in x)) (λ (t : Planned). t.id ≡ thread)) (sym more.is) may.next in
    let e = c.hold-held.ensures.held in let y = c.hold-held.result.state in let low = c.place-at.ensures.placed.there in
    let local = enter_local (holding at y w) self.core own thread at reads next (placed_held at y w self.core at reads low c.place-at.ensures.placed) in
    let can = may_come w (meaning_of self.policy.now) self.plan.now is_q is_plan at y low e.known self.core thread reads seen.of_core local in
    can.room

pub finish-requires-clause-moved : goal.finish-requires-clause-moved
finish-requires-clause-moved g c =
    let v = view_of c.args.seat.now in let w = view_of c.place-at.new.seat in let self = c.args.self.now in let more = c.place-at.ensures.seat.1 in let o = c.place-at.ensures.seat.0.opening in
    let thread = c.args.thread in let at = c.place-at.result.0 in let reads = c.place-at.result.1 in let may = c.requires.may in
    let is_q : meaning_in w ≡ meaning_of self.policy.now = ap meaning_of (o.policy ∙ sym self.under) in let is_plan : w.plan ≡ self.plan.now = o.plan ∙ sym self.of in
    let own : self.core < w.plan.cores = subst (λ (x : Plan). self.core < x.cores) (sym o.plan) self.there in
    let seen = noted_only self.core v w may.of_core may.free more in
    let next = subst (λ (x : View). IsSomeAnd (entering_next x.plan x.round self.core (own_entries_in x)) (λ (t : Planned). t.id ≡ thread)) (sym more.is) may.next in
    let e = c.hold-held.ensures.held in let y = c.hold-held.result.state in let low = c.place-at.ensures.placed.there in
    let z = c.admit.new.self in let p = is_q in
    subst (λ (x : View × ℕ). HasMoved (entry.Enter thread self.core at reads) x.0 x.1 z) (λ i. (sym e.view i, sym c.hold-held.ensures.core i))
    (enter_moved w at y z seen.free low thread self.core reads c.in-Some.planned.now c.entering_task.result
    (ap (λ (x : Plan). planned_of x thread) is_plan ∙ c.in-Some.ensures)
    (c.entering_task.ensures ∙ ap (λ (x : Meaning). entering_task x c.in-Some.planned.now) (sym is_q))
    (c.admit.ensures ∙ (λ i. record y { core = admitted (sym is_q i) true c.entering_task.result y.core })))

pub finish-requires-clause-legal : goal.finish-requires-clause-legal
finish-requires-clause-legal g c =
    let v = view_of c.args.seat.now in let w = view_of c.place-at.new.seat in let self = c.args.self.now in let more = c.place-at.ensures.seat.1 in let o = c.place-at.ensures.seat.0.opening in
    let thread = c.args.thread in let at = c.place-at.result.0 in let reads = c.place-at.result.1 in let may = c.requires.may in
    let is_q : meaning_in w ≡ meaning_of self.policy.now = ap meaning_of (o.policy ∙ sym self.under) in let is_plan : w.plan ≡ self.plan.now = o.plan ∙ sym self.of in
    let own : self.core < w.plan.cores = subst (λ (x : Plan). self.core < x.cores) (sym o.plan) self.there in
    let seen = noted_only self.core v w may.of_core may.free more in
    let next = subst (λ (x : View). IsSomeAnd (entering_next x.plan x.round self.core (own_entries_in x)) (λ (t : Planned). t.id ≡ thread)) (sym more.is) may.next in
    let e = c.hold-held.ensures.held in let y = c.hold-held.result.state in let low = c.place-at.ensures.placed.there in
    let local = enter_local (holding at y w) self.core own thread at reads next (placed_held at y w self.core at reads low c.place-at.ensures.placed) in
    subst (λ (x : View). IsLocalIn x (entry.Enter thread self.core at reads)) (sym e.view) local

pub returns-clause-entered : goal.returns-clause-entered
returns-clause-entered g c =
    let v = view_of c.args.seat.now in let w = view_of c.place-at.new.seat in let self = c.args.self.now in let more = c.place-at.ensures.seat.1 in let o = c.place-at.ensures.seat.0.opening in
    let thread = c.args.thread in let at = c.place-at.result.0 in let reads = c.place-at.result.1 in let may = c.requires.may in
    let is_q : meaning_in w ≡ meaning_of self.policy.now = ap meaning_of (o.policy ∙ sym self.under) in let is_plan : w.plan ≡ self.plan.now = o.plan ∙ sym self.of in
    let own : self.core < w.plan.cores = subst (λ (x : Plan). self.core < x.cores) (sym o.plan) self.there in
    let seen = noted_only self.core v w may.of_core may.free more in
    let next = subst (λ (x : View). IsSomeAnd (entering_next x.plan x.round self.core (own_entries_in x)) (λ (t : Planned). t.id ≡ thread)) (sym more.is) may.next in
    let e = c.hold-held.ensures.held in let y = c.hold-held.result.state in let low = c.place-at.ensures.placed.there in
    record {
      to = at;
      reads = reads;
      late = c.place-at.ensures.late;
      all = λ some.
          let count = finished_count at y w (view_of c.hold-held.new.seat) (view_of c.finish.new.seat) low e.view (entry.Enter thread self.core at reads) c.hold-held.result.core c.finish.result c.finish.ensures.finished in
          let read = c.place-at.ensures.all in omega (arith, count, read);
      adds = adds_behind self.core v w seen may.of_core c.finish.result (entry.Enter thread self.core at reads) (view_of c.finish.new.seat)
          (adds_one w self.core c.finish.result (entry.Enter thread self.core at reads) seen.of_core seen.free at y low
          (view_of c.hold-held.new.seat) (view_of c.finish.new.seat) e.view c.hold-held.result.core c.finish.ensures.finished);
    }
