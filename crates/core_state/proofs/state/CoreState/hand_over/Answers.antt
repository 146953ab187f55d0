use Rattle.std.proofs.Common.{List, ap, ◌∙◌, vec_capacity}
use Rattle.sched_base.specs.declared.task.Task.{Task}
use Rattle.round_model.specs.Moves.{handed}
use Rattle.run_queue.specs.Tasks.{QueueView, is_thread}
use Rattle.core_state.specs.Views.{CoreView}
use Rattle.core_state.proofs.Placing.{same_rest, viewed}
use Rattle.core_state.proofs.state.CoreState.hand_over.Goals as goal

pub returns-clause-core : goal.returns-clause-core
unfolding handed
returns-clause-core c =
    let s = c.self.inside in
    let with : QueueView → CoreView = λ queue. viewed s.current queue s.blocked.items (vec_capacity s.blocked) s.consts s.log.items (vec_capacity s.log) in
    ap with c.take_thread.ensures.rest
    ∙ (ap (λ (tasks : List Task). with (record { tasks = tasks; order = s.queue.order; room = s.queue.room })) (same_rest (is_thread c.args.thread) s.queue.tasks)
    ∙ ap (λ (v : CoreView). let u : CoreView = record v { core = handed c.args.thread v.core } in u) c.self.view_is)
