-- A policy is told to have an obligation with too many cases exactly where it has one, and one of differences is decided.
use Rattle.std.proofs.Common.{ap, subst, ◌∙◌}
use Rattle.policy_tree.specs.Meaning.{meaning_of}
use Rattle.policy_eval.specs.Obligations.{batch_leaves_last, filter_leaves_last}
use Rattle.obligations.specs.declared.last_threads.LastWaiting.{LastWaiting}
use Rattle.policy_checker.specs.Answers.{HasFewLooks, IsAnswer}
use Rattle.policy_checker.proofs.Decided.{statement_decided}
use Rattle.policy_checker.proofs.last_threads.check_last.Goals as goal

pub returns-in-Ok-both_of-clause-crowded : goal.returns-in-Ok-both_of-clause-crowded
returns-in-Ok-both_of-clause-crowded c name count =
    ((λ e. absurd (let clash : ⊥ = cc in clash)), (λ crowd. absurd (let told = (c.in-Ok.ensures.crowded name count).1 crowd in let clash : ⊥ = cc in clash)))

pub returns-in-Ok-both_of-clause-filter : goal.returns-in-Ok-both_of-clause-filter
returns-in-Ok-both_of-clause-filter c = record {
  vars = c.in-Ok-both_of.ensures.vars.0 ∙ ap (λ (last : LastWaiting). last.filter.vars) c.in-Ok.ensures.ok;
  answer = subst (λ (last : LastWaiting). IsAnswer c.args.budget last.filter.systems c.in-Ok-both_of.ones.filter.answer) c.in-Ok.ensures.ok c.in-Ok-both_of.ensures.answers.0;
  looks = subst (λ (last : LastWaiting). HasFewLooks c.args.budget last.filter.systems c.in-Ok-both_of.ones.filter.looks) c.in-Ok.ensures.ok c.in-Ok-both_of.ensures.looks.0;
}

pub returns-in-Ok-both_of-clause-batch : goal.returns-in-Ok-both_of-clause-batch
returns-in-Ok-both_of-clause-batch c = record {
  vars = c.in-Ok-both_of.ensures.vars.1 ∙ ap (λ (last : LastWaiting). last.batch.vars) c.in-Ok.ensures.ok;
  answer = subst (λ (last : LastWaiting). IsAnswer c.args.budget last.batch.systems c.in-Ok-both_of.ones.batch.answer) c.in-Ok.ensures.ok c.in-Ok-both_of.ensures.answers.1;
  looks = subst (λ (last : LastWaiting). HasFewLooks c.args.budget last.batch.systems c.in-Ok-both_of.ones.batch.looks) c.in-Ok.ensures.ok c.in-Ok-both_of.ensures.looks.1;
}

pub returns-in-Ok-both_of-clause-decided : goal.returns-in-Ok-both_of-clause-decided
returns-in-Ok-both_of-clause-decided c form =
    let p = meaning_of c.args.policy.now in
    let first = subst (λ (last : LastWaiting). IsAnswer c.args.budget last.filter.systems c.in-Ok-both_of.ones.filter.answer) c.in-Ok.ensures.ok c.in-Ok-both_of.ensures.answers.0 in
    let further = subst (λ (last : LastWaiting). IsAnswer c.args.budget last.batch.systems c.in-Ok-both_of.ones.batch.answer) c.in-Ok.ensures.ok c.in-Ok-both_of.ensures.answers.1 in
    (statement_decided p form filter_leaves_last c.args.budget _ first, statement_decided p form batch_leaves_last c.args.budget _ further)

pub returns-in-Err-both_of-clause-crowded : goal.returns-in-Err-both_of-clause-crowded
returns-in-Err-both_of-clause-crowded c name count =
    ((λ e. absurd (let clash : ⊥ = cc in clash)), (λ crowd. absurd (let told = (c.in-Ok.ensures.crowded name count).1 crowd in let clash : ⊥ = cc in clash)))

pub returns-in-Err-clause-crowded : goal.returns-in-Err-clause-crowded
returns-in-Err-clause-crowded c name count =
    ((λ e. (c.in-Err.ensures.crowded name count).0 (cc)), (λ crowd. let told = (c.in-Err.ensures.crowded name count).1 crowd in cc))
