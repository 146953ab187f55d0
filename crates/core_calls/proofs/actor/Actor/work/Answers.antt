use Rattle.std.proofs.Common.{ℕ, ◌<◌, ◌≡◌, ap, ◌∙◌, sym, subst, refl, true}
use Rattle.policy_tree.specs.Meaning.{Meaning, meaning_of}
use Rattle.round_model.specs.declared.entry.Entry.TheVariants as entry
use Rattle.round_model.specs.declared.plan.Plan.{Plan}
use Rattle.round_model.specs.Work.{IsOutcomeOfWork, core_after_work}
use Rattle.core_table.specs.declared.views.View.{View}
use Rattle.core_table.specs.Public.{HasMoved, view_of}
use Rattle.core_table.specs.Told.{IsLocalIn}
use Rattle.core_table.specs.Views.{holding, meaning_in, taken}
use Rattle.core_calls.proofs.Drawn.{adds_one}
use Rattle.core_calls.proofs.Held.{round_few, runs}
use Rattle.core_calls.proofs.Local.{work_local}
use Rattle.core_calls.proofs.Moving.{work_moved}
use Rattle.core_calls.proofs.actor.Actor.work.Goals as goal

pub work-did-requires-clause-order : goal.work-did-requires-clause-order
work-did-requires-clause-order g c =
    let v = view_of c.args.seat.now in let self = c.args.self.now in let o = c.requires.seat.opening in let e = c.hold-held.ensures.held in
    let is_q : meaning_in v ≡ meaning_of self.policy.now = ap meaning_of (o.policy ∙ sym self.under) in let is_plan : v.plan ≡ self.plan.now = o.plan ∙ sym self.of in
    let low : self.core < v.plan.cores = subst (λ (x : Plan). self.core < x.cores) (sym o.plan) self.there in let y = c.hold-held.result.state in
    (runs v (meaning_of self.policy.now) self.plan.now is_q is_plan self.core y low e.known).order

pub work-did-requires-clause-bounds : goal.work-did-requires-clause-bounds
work-did-requires-clause-bounds g c =
    let v = view_of c.args.seat.now in let self = c.args.self.now in let o = c.requires.seat.opening in let e = c.hold-held.ensures.held in
    let is_q : meaning_in v ≡ meaning_of self.policy.now = ap meaning_of (o.policy ∙ sym self.under) in let is_plan : v.plan ≡ self.plan.now = o.plan ∙ sym self.of in
    let low : self.core < v.plan.cores = subst (λ (x : Plan). self.core < x.cores) (sym o.plan) self.there in let y = c.hold-held.result.state in
    (runs v (meaning_of self.policy.now) self.plan.now is_q is_plan self.core y low e.known).bounds

pub work-did-requires-clause-bursts : goal.work-did-requires-clause-bursts
work-did-requires-clause-bursts g c =
    let v = view_of c.args.seat.now in let self = c.args.self.now in let o = c.requires.seat.opening in let e = c.hold-held.ensures.held in
    let is_q : meaning_in v ≡ meaning_of self.policy.now = ap meaning_of (o.policy ∙ sym self.under) in let is_plan : v.plan ≡ self.plan.now = o.plan ∙ sym self.of in
    let low : self.core < v.plan.cores = subst (λ (x : Plan). self.core < x.cores) (sym o.plan) self.there in let y = c.hold-held.result.state in
    (runs v (meaning_of self.policy.now) self.plan.now is_q is_plan self.core y low e.known).bursts

pub work-did-requires-clause-room : goal.work-did-requires-clause-room
work-did-requires-clause-room g c =
    let v = view_of c.args.seat.now in let self = c.args.self.now in let o = c.requires.seat.opening in let e = c.hold-held.ensures.held in
    let is_q : meaning_in v ≡ meaning_of self.policy.now = ap meaning_of (o.policy ∙ sym self.under) in let is_plan : v.plan ≡ self.plan.now = o.plan ∙ sym self.of in
    let low : self.core < v.plan.cores = subst (λ (x : Plan). self.core < x.cores) (sym o.plan) self.there in let y = c.hold-held.result.state in
    (runs v (meaning_of self.policy.now) self.plan.now is_q is_plan self.core y low e.known).room

pub work-did-requires-clause-round : goal.work-did-requires-clause-round
work-did-requires-clause-round g c =
    let v = view_of c.args.seat.now in let self = c.args.self.now in let o = c.requires.seat.opening in let e = c.hold-held.ensures.held in
    let is_q : meaning_in v ≡ meaning_of self.policy.now = ap meaning_of (o.policy ∙ sym self.under) in let is_plan : v.plan ≡ self.plan.now = o.plan ∙ sym self.of in
    let low : self.core < v.plan.cores = subst (λ (x : Plan). self.core < x.cores) (sym o.plan) self.there in let y = c.hold-held.result.state in
    round_few v (meaning_of self.policy.now) self.plan.now is_q is_plan self.core y low e.known c.args.round c.requires.round

pub finish-requires-clause-moved : goal.finish-requires-clause-moved
finish-requires-clause-moved g c =
    let v = view_of c.args.seat.now in let self = c.args.self.now in let o = c.requires.seat.opening in let e = c.hold-held.ensures.held in
    let is_q : meaning_in v ≡ meaning_of self.policy.now = ap meaning_of (o.policy ∙ sym self.under) in let is_plan : v.plan ≡ self.plan.now = o.plan ∙ sym self.of in
    let low : self.core < v.plan.cores = subst (λ (x : Plan). self.core < x.cores) (sym o.plan) self.there in let y = c.hold-held.result.state in
    let did = c.work-did.result in let z = c.work-did.new.self in
    let ran : z ≡ record y { core = core_after_work (meaning_in v) v.plan v.round y.core } =
    c.work-did.ensures.core ∙ (λ i. record y { core = core_after_work (sym is_q i) (sym is_plan i) (c.requires.round i) y.core }) in
    subst (λ (x : View × ℕ). HasMoved (entry.Work self.core did) x.0 x.1 z) (λ i. (sym e.view i, sym c.hold-held.ensures.core i)) (work_moved v self.core y z c.requires.may.free low did ran)

pub finish-requires-clause-legal : goal.finish-requires-clause-legal
finish-requires-clause-legal g c =
    let v = view_of c.args.seat.now in let self = c.args.self.now in let o = c.requires.seat.opening in let e = c.hold-held.ensures.held in
    let is_q : meaning_in v ≡ meaning_of self.policy.now = ap meaning_of (o.policy ∙ sym self.under) in let is_plan : v.plan ≡ self.plan.now = o.plan ∙ sym self.of in
    let low : self.core < v.plan.cores = subst (λ (x : Plan). self.core < x.cores) (sym o.plan) self.there in let y = c.hold-held.result.state in
    let did = c.work-did.result in let w : View = holding self.core y v in
    let outcome : IsOutcomeOfWork (meaning_in v) v.plan v.round y.core did =
    subst (λ (x : Meaning × Plan × ℕ). IsOutcomeOfWork x.0 x.1 x.2 y.core did) (λ i. (sym is_q i, sym is_plan i, c.requires.round i)) c.work-did.ensures.did in
    subst (λ (x : View). IsLocalIn x (entry.Work self.core did)) (sym e.view)
    (work_local w self.core low 0 (taken v.plan.cores self.core y) refl refl c.requires.may.marked e.known.0 e.known.1 c.requires.may.entered c.requires.may.first did outcome)

pub returns-clause-worked : goal.returns-clause-worked
returns-clause-worked g c =
    let v = view_of c.args.seat.now in let self = c.args.self.now in let o = c.requires.seat.opening in let e = c.hold-held.ensures.held in
    let is_q : meaning_in v ≡ meaning_of self.policy.now = ap meaning_of (o.policy ∙ sym self.under) in let is_plan : v.plan ≡ self.plan.now = o.plan ∙ sym self.of in
    let low : self.core < v.plan.cores = subst (λ (x : Plan). self.core < x.cores) (sym o.plan) self.there in let y = c.hold-held.result.state in
    let did = c.work-did.result in
    record {
      at = c.finish.result;
      adds = adds_one v self.core c.finish.result (entry.Work self.core did) (record { none_due = true; role = c.requires.may.marked }) c.requires.may.free self.core y low
          (view_of c.hold-held.new.seat) (view_of c.finish.new.seat) e.view c.hold-held.result.core c.finish.ensures.finished;
    }
