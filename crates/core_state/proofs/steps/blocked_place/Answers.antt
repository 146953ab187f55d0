use Rattle.std.proofs.Common.{sym, ap, ◌∙◌}
use Rattle.std.proofs.lemmas.Option.{get_or_from_slice_get}
use Rattle.round_model.specs.declared.state.Blocked.{Blocked}
use Rattle.run_queue.proofs.Places.{item_at}
use Rattle.core_state.proofs.Placing.{first_blocked}
use Rattle.core_state.proofs.steps.blocked_place.Goals as goal

pub returns-then-blocked-at : goal.returns-then-blocked-at
returns-then-blocked-at c =
    let b = item_at c.args.blocked.now c.loop-at.at c.loop-at-test.true in
    first_blocked c.args.thread c.loop-at.at c.args.blocked.now b.0 b.1
    (ap (λ (b : Blocked). b.task.id) (sym (get_or_from_slice_get c.args.blocked.now c.loop-at.at b.0 _ b.1)) ∙ c.if-blocked-at.true) c.loop-at.invariant.found c.loop-at.invariant.rest
