use Rattle.std.proofs.Common.{◌<◌, arith, ap, ◌∙◌, sym, subst}
use Rattle.round_model.specs.declared.plan.Plan.{Plan}
use Rattle.core_table.specs.Public.{view_of}
use Rattle.round_model.specs.Scenes.{waking_next}
use Rattle.core_table.specs.Views.{giving}
use Rattle.core_calls.specs.Code.Sends.{due_in}
use Rattle.core_calls.proofs.Drawn.{glimpsed_count}
use Rattle.core_calls.proofs.Marking.{glimpsed_one, none_due_one, none_named, unfound}
use Rattle.core_calls.proofs.actor.Actor.has_due.Goals as goal

pub returns-clause-same : goal.returns-clause-same
returns-clause-same g c =
    let v = view_of c.args.seat.now in let self = c.args.self.now in let o = c.requires.seat.opening in let e = c.hold-held.ensures.held in
    let low : self.core < v.plan.cores = subst (λ (x : Plan). self.core < x.cores) (sym o.plan) self.there in let y = c.hold-held.result.state in
    let given = c.release.ensures.home.view ∙ ap giving e.view in
    glimpsed_one self.core v c.requires.of_core c.requires.free y low (view_of c.release.new.seat) given

pub returns-clause-none : goal.returns-clause-none
returns-clause-none g c =
    let v = view_of c.args.seat.now in let self = c.args.self.now in let o = c.requires.seat.opening in let e = c.hold-held.ensures.held in
    let low : self.core < v.plan.cores = subst (λ (x : Plan). self.core < x.cores) (sym o.plan) self.there in let y = c.hold-held.result.state in
    let given = c.release.ensures.home.view ∙ ap giving e.view in
    λ none.
    none_due_one self.core v c.requires.of_core c.requires.free y low (view_of c.release.new.seat) given
    (none_named (waking_next v.round y.core) (ap (λ r. due_in r y.core) (sym c.requires.round) ∙ (sym c.due.ensures ∙ unfound c.due.result (sym c.is_some-due.ensures ∙ none))))

pub returns-clause-few : goal.returns-clause-few
returns-clause-few g c =
    let v = view_of c.args.seat.now in let self = c.args.self.now in let o = c.requires.seat.opening in let e = c.hold-held.ensures.held in
    let low : self.core < v.plan.cores = subst (λ (x : Plan). self.core < x.cores) (sym o.plan) self.there in
    let count = glimpsed_count self.core c.hold-held.result.state v (view_of c.release.new.seat) low (c.release.ensures.home.view ∙ ap giving e.view) in omega (arith, count)
