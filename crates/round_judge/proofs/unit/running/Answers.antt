use Rattle.std.proofs.Common.{List, Option, All, ◌++◌, option_to_list, sym, subst}
use Rattle.sched_base.specs.declared.task.Task.{Task}
use Rattle.policy_tree.specs.Meaning.{meaning_of, order_tree}
use Rattle.policy_eval.specs.Fitting.{IsTask}
use Rattle.policy_eval.specs.Sites.{electing}
use Rattle.policy_eval.proofs.Evaluable.{evaluable_order}
use Rattle.policy_eval.proofs.Wide.{thread_wide}
use Rattle.round_judge.proofs.unit.running.Goals as goal

pub best_place-requires-clause-order : goal.best_place-requires-clause-order
best_place-requires-clause-order c =
    evaluable_order (meaning_of c.args.policy.now) c.requires.policy electing (order_tree c.args.policy.now.elect) c.requires.policy.elect

pub best_place-requires-clause-tasks : goal.best_place-requires-clause-tasks
best_place-requires-clause-tasks c k d inside =
    let p = meaning_of c.args.policy.now in let core = c.args.core.now in
    let queued = subst (λ (current : Option Task). All (IsTask p) (option_to_list current ++ core.queue)) c.in_default.is c.requires.bounds.tasks in
    let listed = subst (λ (tasks : List Task). All (IsTask p) tasks) (sym c.as_slice.ensures.items) queued in
    thread_wide p c.requires.policy _ (listed k d inside)
