use Rattle.std.proofs.Common.{List, All, sym, subst, ◌∙◌}
use Rattle.sched_base.specs.declared.task.Task.{Task}
use Rattle.policy_tree.specs.Meaning.{meaning_of, order_tree}
use Rattle.policy_eval.specs.Fitting.{IsTask}
use Rattle.policy_eval.specs.Sites.{stealing}
use Rattle.policy_eval.proofs.Evaluable.{evaluable_order}
use Rattle.policy_eval.proofs.Wide.{thread_wide}
use Rattle.round_model.specs.Work.{before}
use Rattle.round_judge.proofs.Judged.{untaken-All}
use Rattle.round_judge.proofs.batches.next.Goals as goal

pub best_untaken-requires-clause-order : goal.best_untaken-requires-clause-order
best_untaken-requires-clause-order c = evaluable_order (meaning_of c.args.policy.now) c.requires.policy stealing (order_tree c.args.policy.now.steal) c.requires.policy.steal

pub best_untaken-requires-clause-tasks : goal.best_untaken-requires-clause-tasks
best_untaken-requires-clause-tasks c k d inside =
    let p = meaning_of c.args.policy.now in
    let listed = subst (λ (tasks : List Task). All (IsTask p) tasks) (sym c.as_slice.ensures.items) c.requires.queue in
    thread_wide p c.requires.policy _ (listed k d inside)

pub goes_on-requires-clause-task : goal.goes_on-requires-clause-task
goes_on-requires-clause-task c =
    let p = meaning_of c.args.policy.now in
    let listed = subst (λ (tasks : List Task). All (IsTask p) tasks) (sym c.as_slice.ensures.items) c.requires.queue in
    untaken-All (IsTask p) (before p.steal) c.args.taken.now c.as_slice.result.now c.in_ok-task.task listed (sym c.best_untaken.ensures ∙ c.in_ok-task.was)
