use Rattle.std.proofs.Common.{List, ℕ, sym, ap, ap₂, subst, ◌∙◌, vec_capacity}
use Rattle.round_model.specs.declared.state.Blocked.{Blocked}
use Rattle.round_model.specs.Moves.{is_blocked_task, released}
use Rattle.round_model.specs.Updates.{IsFirstAt, IsFirstPlace}
use Rattle.core_state.specs.Views.{CoreView}
use Rattle.core_state.proofs.Placing.{viewed}
use Rattle.core_state.proofs.state.CoreState.release_blocked.Goals as goal

pub returns-clause-core : goal.returns-clause-core
unfolding released
returns-clause-core c =
    let s = c.self.inside in
    let with : List Blocked → ℕ → CoreView = λ blocked room. viewed s.current s.queue blocked room s.consts s.log.items (vec_capacity s.log) in
    let first = subst (λ place. IsFirstPlace (is_blocked_task c.args.thread) c.as_slice.result.now place) c.in-Some.is c.blocked_place.ensures in
    let left = subst (λ (list : List Blocked). IsFirstAt (is_blocked_task c.args.thread) list c.in-Some.place) c.as_slice.ensures.value first in
    ap₂ with (c.remove.ensures.items ∙ sym left.rest) c.remove.ensures.capacity
    ∙ ap (λ (v : CoreView). let u : CoreView = record v { core = released c.args.thread v.core } in u) c.self.view_is
