use Rattle.std.proofs.Common.{sym, subst, ◌∙◌}
use Rattle.policy_tree.specs.Meaning.{Meaning, meaning_of}
use Rattle.policy_eval.specs.Fitting.{IsTask}
use Rattle.model_tests.specs.Policies.{basic}
use Rattle.runtime_tests.proofs.Moments.{comes, handlers, task_fits}
use Rattle.runtime_tests.proofs.cores.come.Goals as goal

pub admit-requires-clause-handlers : goal.admit-requires-clause-handlers
admit-requires-clause-handlers c = handlers (meaning_of c.args.policy.now) c.requires.policy

pub admit-requires-clause-task : goal.admit-requires-clause-task
admit-requires-clause-task c =
    let which = c.requires.task in
    subst (λ (p : Meaning). IsTask p c.args.task) (sym c.requires.policy) (subst (IsTask basic) (sym which.2) (task_fits which.0 which.1))

pub returns : goal.returns
returns c = c.admit.ensures ∙ comes (meaning_of c.args.policy.now) c.requires.policy c.args.fresh c.args.task c.args.state.now
