use Rattle.std.proofs.Common.{ap, ◌∙◌, sym, subst, refl, Some, true, arith}
use Rattle.sched_base.specs.declared.task.Task.{Task}
use Rattle.policy_tree.specs.Meaning.{meaning_of}
use Rattle.policy_eval.specs.Fitting.{IsTask}
use Rattle.round_model.specs.Cores.{listed}
use Rattle.round_model.specs.Moves.{admitted}
use Rattle.round_model.specs.Updates.{updated}
use Rattle.round_model.proofs.Keeping.{entering_fits}
use Rattle.round_model.proofs.Moved.{moved_enter, moved_no_enter}
use Rattle.round_model.proofs.States.{OnOk-then, listed_same}
use Rattle.round_judge.proofs.changes.enter.Goals as goal

pub admit-requires-clause-task : goal.admit-requires-clause-task
admit-requires-clause-task c =
    let p = meaning_of c.args.policy.now in
    subst (IsTask p) (sym c.entering_task.ensures) (entering_fits p c.args.plan.now c.requires.fits c.args.thread c.in-Some.thread.now c.in-Some.ensures)

pub returns-in-None-clause-ok : goal.returns-in-None-clause-ok
returns-in-None-clause-ok c n m round by reads is at =
    is ∙ listed_same n m _ (λ k inside. moved_no_enter (meaning_of c.args.policy.now) c.args.plan.now round m c.args.thread by c.args.at reads c.in-None.ensures k)

pub returns-in-Some-clause-ok : goal.returns-in-Some-clause-ok
returns-in-Some-clause-ok c =
    let p = meaning_of c.args.policy.now in
    OnOk-then c.admit.result c.admit.ensures.ok (λ placed n m round by reads is at.
    placed n m is at
    ∙ (ap (λ (t : Task). listed n (updated m c.args.at (admitted p true t (m c.args.at)))) c.entering_task.ensures
    ∙ listed_same n _ _ (λ k inside. moved_enter p c.args.plan.now round m c.args.thread by c.args.at reads (Some c.in-Some.thread.now) c.in-Some.ensures k)))

pub returns-in-None-clause-kept : goal.returns-in-None-clause-kept
returns-in-None-clause-kept c = record { len = refl; each = λ each. each; count = omega arith }
