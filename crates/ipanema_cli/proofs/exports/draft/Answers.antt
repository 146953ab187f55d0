-- The header is that of the verdict that `check` gives.
use Rattle.std.proofs.Common.{inr, refl, subst, sym}
use Rattle.policy_answers.specs.Checks.{IsCheckOf}
use Rattle.policy_answers.specs.declared.answer.CheckAnswer.TheVariants as checked
use Rattle.ipanema_cli.proofs.exports.draft.Goals as goal

pub returns-in_ok-draft_text-in-Ok-clause-answer : goal.returns-in_ok-draft_text-in-Ok-clause-answer
returns-in_ok-draft_text-in-Ok-clause-answer c =
    let same = c.in-Ok.ensures.plays.0 in
    let judged = subst (IsCheckOf c.args.policy.now) (sym same) c.in_ok-check_text.ensures in
    inr (c.in_ok-draft_text-in-Ok.field-0, refl, (checked.Judged c.in-Ok.verdict, judged, (c.in-Ok.ensures.plays.1, c.in_ok-draft_text-in-Ok.ensures)))
