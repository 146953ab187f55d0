use Rattle.std.proofs.Common.{sym, ap, ◌∙◌}
use Rattle.std.proofs.lemmas.Option.{get_or_from_slice_get}
use Rattle.round_judge.specs.declared.past.Arrival.{Arrival}
use Rattle.run_queue.proofs.Places.{item_at}
use Rattle.core_worker.proofs.Asking.{first_arrives}
use Rattle.core_worker.proofs.steps.first_place.Goals as goal

pub returns-then-arrivals-at : goal.returns-then-arrivals-at
returns-then-arrivals-at c =
    let x = item_at c.args.arrivals.now c.loop-at.at c.loop-at-test.true in
    first_arrives c.args.core c.loop-at.at c.args.arrivals.now x.0 x.1
    (ap (λ (y : Arrival). y.core) (sym (get_or_from_slice_get c.args.arrivals.now c.loop-at.at x.0 _ x.1)) ∙ c.if-arrivals-at.true) c.loop-at.invariant.found c.loop-at.invariant.rest
