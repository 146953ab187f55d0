-- The answers are those of the policy's obligations, unless one of them has too many cases.
use Rattle.std.proofs.Common.{List, subst, sym, ◌∙◌}
use Rattle.std.specs.List.{AllZip}
use Rattle.policy_tree.specs.Meaning.{meaning_of}
use Rattle.obligations.specs.declared.obligation.Obligation.{Obligation}
use Rattle.policy_checker.specs.Verdicts.{AreAnswers, IsAnswerTo}
use Rattle.policy_checker.proofs.Named.{are_answers}
use Rattle.policy_checker.proofs.checking.answers_of.Goals as goal

pub returns-in-Ok-answers_to-clause-crowded : goal.returns-in-Ok-answers_to-clause-crowded
returns-in-Ok-answers_to-clause-crowded c name count =
    ((λ e. absurd (let clash : ⊥ = cc in clash)), (λ crowd. absurd (let told = (c.in-Ok.ensures.crowded name count).1 crowd in let clash : ⊥ = cc in clash)))

pub returns-in-Ok-answers_to-clause-answers : goal.returns-in-Ok-answers_to-clause-answers
returns-in-Ok-answers_to-clause-answers c =
    let p = meaning_of c.args.policy.now in
    let answers = c.in-Ok-answers_to.answers.items in
    let all = subst (λ (obligations : List Obligation). AllZip (IsAnswerTo c.args.budget) obligations answers) (c.as_slice.ensures.items ∙ c.in-Ok.ensures.ok) c.in-Ok-answers_to.ensures.answers in
    subst (AreAnswers p c.args.budget) (sym c.from_vec.ensures) (are_answers p c.args.budget answers all)

pub returns-in-Ok-clause-crowded : goal.returns-in-Ok-clause-crowded
returns-in-Ok-clause-crowded c name count =
    ((λ e. absurd (let clash : ⊥ = cc in clash)), (λ crowd. absurd (let told = (c.in-Ok.ensures.crowded name count).1 crowd in let clash : ⊥ = cc in clash)))

pub returns-clause-crowded : goal.returns-clause-crowded
returns-clause-crowded c name count =
    ((λ e. (c.in-Err.ensures.crowded name count).0 (cc)), (λ crowd. let told = (c.in-Err.ensures.crowded name count).1 crowd in cc))
