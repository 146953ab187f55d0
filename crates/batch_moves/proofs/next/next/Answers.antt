use Rattle.std.proofs.Common.{true, false, sym, ◌∙◌}
use Rattle.policy_tree.specs.Meaning.{batch_tree, meaning_of}
use Rattle.batch_moves.proofs.Moving.{task_fits}
use Rattle.batch_moves.proofs.Steps.{next-best, next-none}
use Rattle.batch_moves.proofs.next.next.Goals as goal

pub goes_on-requires-clause-task : goal.goes_on-requires-clause-task
goes_on-requires-clause-task c =
    task_fits (meaning_of c.args.policy.now) c.args.thief.now c.args.victim.now c.requires.may c.in_ok-task.task (sym c.best.ensures ∙ c.in_ok-task.was)

pub returns-in_err-task-clause-next : goal.returns-in_err-task-clause-next
returns-in_err-task-clause-next c plan a v own_is other_is =
    c.from_residual.ensures
    ∙ sym (next-none (meaning_of c.args.policy.now) plan a v (batch_tree c.args.batch.now) c.args.thief.now.core c.args.victim.now.core (sym c.best.ensures ∙ c.in_err-task.was))

pub returns-then-goes_on-clause-next : goal.returns-then-goes_on-clause-next
returns-then-goes_on-clause-next c plan a v own_is other_is =
    sym (next-best (meaning_of c.args.policy.now) plan a v (batch_tree c.args.batch.now) c.args.thief.now.core c.args.victim.now.core
    c.in_ok-task.task (sym c.best.ensures ∙ c.in_ok-task.was) c.args.own.now c.args.other.now own_is other_is
    c.present-own.result c.present-other.result c.present-own.ensures c.present-other.ensures true (sym c.goes_on.ensures ∙ c.if-goes_on.true))

pub returns-else-goes_on-clause-next : goal.returns-else-goes_on-clause-next
returns-else-goes_on-clause-next c plan a v own_is other_is =
    sym (next-best (meaning_of c.args.policy.now) plan a v (batch_tree c.args.batch.now) c.args.thief.now.core c.args.victim.now.core
    c.in_ok-task.task (sym c.best.ensures ∙ c.in_ok-task.was) c.args.own.now c.args.other.now own_is other_is
    c.present-own.result c.present-other.result c.present-own.ensures c.present-other.ensures false (sym c.goes_on.ensures ∙ c.if-goes_on.false))
