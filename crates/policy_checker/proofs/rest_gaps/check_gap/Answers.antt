-- Where each comparison is one of differences, the answer is known.
use Rattle.std.proofs.Common.{◌≡◌, List, ap, subst, ◌∙◌}
use Rattle.linear_form.specs.System.{LinearSystem}
use Rattle.policy_tree.specs.Meaning.{meaning_of}
use Rattle.policy_eval.specs.Obligations.{rest_gap}
use Rattle.obligations.specs.declared.obligation.Question.{Question}
use Rattle.obligations.specs.Systems.{systems_of}
use Rattle.policy_checker.specs.Answers.{IsAnswer}
use Rattle.policy_checker.proofs.Decided.{statement_decided}
use Rattle.policy_checker.proofs.rest_gaps.check_gap.Goals as goal

pub returns-clause-decided : goal.returns-clause-decided
returns-clause-decided c form =
    let p = meaning_of c.args.policy.now in let s = rest_gap c.args.gap in
    let systems : c.as_slice.result.now ≡ systems_of p s = c.as_slice.ensures.items ∙ ap (λ (q : Question). q.systems) c.in_ok-question.ensures.ok in
    statement_decided p form s c.args.budget c.in_ok-answer.field-0.answer
    (subst (λ (all : List LinearSystem). IsAnswer c.args.budget all c.in_ok-answer.field-0.answer) systems c.in_ok-answer.ensures.answer)
