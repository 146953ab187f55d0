-- A policy is told to have an obligation with too many cases exactly where it has one, and one of differences is decided.
use Rattle.std.proofs.Common.{List, ap, subst, ◌∙◌}
use Rattle.linear_form.specs.System.{LinearSystem}
use Rattle.policy_tree.specs.Meaning.{meaning_of}
use Rattle.obligations.specs.declared.obligation.Obligation.{Obligation}
use Rattle.policy_checker.specs.Answers.{IsAnswer}
use Rattle.policy_checker.proofs.Decided.{differences_are_decided}
use Rattle.policy_checker.proofs.one.check_one.Goals as goal

pub returns-in-Ok-answer_to-clause-crowded : goal.returns-in-Ok-answer_to-clause-crowded
returns-in-Ok-answer_to-clause-crowded c name count =
    ((λ e. absurd (let clash : ⊥ = cc in clash)), (λ crowd. absurd (let told = (c.in-Ok.ensures.crowded name count).1 crowd in let clash : ⊥ = cc in clash)))

pub returns-in-Ok-answer_to-clause-decided : goal.returns-in-Ok-answer_to-clause-decided
returns-in-Ok-answer_to-clause-decided c form =
    let same = c.as_slice.ensures.items ∙ ap (λ (o : Obligation). o.systems) c.in-Ok.ensures.ok in
    let is = subst (λ (systems : List LinearSystem). IsAnswer c.args.budget systems c.in-Ok-answer_to.field-0.answer) same c.in-Ok-answer_to.ensures.answer in
    differences_are_decided.answers (meaning_of c.args.policy.now) form c.args.ob c.args.budget c.in-Ok-answer_to.field-0.answer is

pub returns-in-Err-answer_to-clause-crowded : goal.returns-in-Err-answer_to-clause-crowded
returns-in-Err-answer_to-clause-crowded c name count =
    ((λ e. absurd (let clash : ⊥ = cc in clash)), (λ crowd. absurd (let told = (c.in-Ok.ensures.crowded name count).1 crowd in let clash : ⊥ = cc in clash)))

pub returns-in-Err-clause-crowded : goal.returns-in-Err-clause-crowded
returns-in-Err-clause-crowded c name count =
    ((λ e. (c.in-Err.ensures.crowded name count).0 (cc)), (λ crowd. let told = (c.in-Err.ensures.crowded name count).1 crowd in cc))
