use Rattle.std.proofs.Common.{Option, None, sym, ap, ◌∙◌, vec_capacity}
use Rattle.sched_base.specs.declared.task.Task.{Task}
use Rattle.policy_eval.specs.Orders.{best_of}
use Rattle.run_queue.specs.Tasks.{QueueView, before, rest_of_best}
use Rattle.core_state.specs.Views.{CoreView}
use Rattle.core_state.proofs.Placing.{viewed}
use Rattle.core_state.proofs.Taking.{next_of_queue}
use Rattle.core_state.proofs.state.CoreState.take_next.Goals as goal

pub returns-in-None : goal.returns-in-None
returns-in-None c =
    let s = c.self.inside in
    let with : Option Task → QueueView → CoreView = λ current queue. viewed current queue s.blocked.items (vec_capacity s.blocked) s.consts s.log.items (vec_capacity s.log) in
    next_of_queue c.args.self.now _ c.pop_best.result
    (sym (ap (λ (v : CoreView). v.core.current) c.self.view_is) ∙ (sym c.take.ensures.value ∙ c.in-None.is))
    (c.pop_best.ensures.best ∙ ap (λ (v : CoreView). best_of (before v.order) v.core.queue) c.self.view_is)
    (ap (λ current. with current c.pop_best.new.self) c.take.ensures.after
    ∙ (ap (with None) c.pop_best.ensures.rest
    ∙ ap (λ (v : CoreView). let u : CoreView = record v { core = record (v.core) { current = None; queue = rest_of_best (before v.order) v.core.queue } } in u) c.self.view_is))
