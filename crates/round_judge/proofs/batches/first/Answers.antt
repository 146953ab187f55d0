use Rattle.std.proofs.Common.{◌≡◌, Option, Some, None, IfSome, List, All, ◌∙◌, sym, subst, true}
use Rattle.sched_base.specs.declared.task.Task.{Task}
use Rattle.policy_tree.specs.Meaning.{meaning_of, order_tree}
use Rattle.policy_eval.specs.Fitting.{IsTask}
use Rattle.policy_eval.specs.Sites.{stealing}
use Rattle.policy_eval.proofs.Evaluable.{evaluable_order}
use Rattle.policy_eval.proofs.Wide.{thread_wide}
use Rattle.policy_eval.specs.Orders.{best_of}
use Rattle.round_model.specs.Work.{before}
use Rattle.round_model.proofs.MoveSteps.{first-by}
use Rattle.round_model.proofs.Once.{untaken-none}
use Rattle.round_judge.proofs.Units.{queued_tasks}
use Rattle.round_judge.proofs.batches.first.Goals as goal

pub best_untaken-requires-clause-order : goal.best_untaken-requires-clause-order
best_untaken-requires-clause-order c = evaluable_order (meaning_of c.args.policy.now) c.requires.policy stealing (order_tree c.args.policy.now.steal) c.requires.policy.steal

pub best_untaken-requires-clause-tasks : goal.best_untaken-requires-clause-tasks
best_untaken-requires-clause-tasks c k d inside =
    let p = meaning_of c.args.policy.now in
    let listed = subst (λ (tasks : List Task). All (IsTask p) tasks) (sym c.as_slice.ensures.items) (queued_tasks p c.args.victim.now c.requires.victim.bounds.tasks) in
    thread_wide p c.requires.policy _ (listed k d inside)

pub returns-then-may_steal-clause-first : goal.returns-then-may_steal-clause-first
returns-then-may_steal-clause-first c plan a v thief seen =
    let p = meaning_of c.args.policy.now in let victim = c.args.victim.now in
    c.best_untaken.ensures
    ∙ (untaken-none (before p.steal) c.empty.result c.as_slice.result.now victim.queue c.empty.ensures c.as_slice.ensures.items
    ∙ sym (first-by p plan a v thief victim c.args.own.now c.args.other.now seen.own_is seen.other_is true (sym c.may_steal.ensures ∙ c.if-may_steal.true)))

pub returns-then-may_steal-clause-best : goal.returns-then-may_steal-clause-best
returns-then-may_steal-clause-best c =
    let p = meaning_of c.args.policy.now in
    if_best c.best_untaken.result (c.best_untaken.ensures
    ∙ untaken-none (before p.steal) c.empty.result c.as_slice.result.now c.args.victim.now.queue c.empty.ensures c.as_slice.ensures.items)
  where
    if_best : (o : Option Task) → o ≡ best_of (before (order_tree c.args.policy.now.steal)) c.args.victim.now.queue
        → IfSome o (λ t. best_of (before (order_tree c.args.policy.now.steal)) c.args.victim.now.queue ≡ Some t)
    if_best None is = tt
    if_best (Some t) is = sym is
