use Rattle.std.proofs.Common.{inr, refl}
use Rattle.policy_tree.specs.Meaning.{meaning_of}
use Rattle.ipanema_cli.proofs.Failing.{if_failed}
use Rattle.ipanema_cli.proofs.answers.judge.Goals as goal

pub returns-in_err-judged_under-in-Ok-clause-memory : goal.returns-in_err-judged_under-in-Ok-clause-memory
returns-in_err-judged_under-in-Ok-clause-memory c = if_failed _ c.from_residual-in_err-judged_under-in-Ok.result c.from_residual-in_err-judged_under-in-Ok.ensures.1

pub returns-in_ok-judged_under-in-Ok-clause-answer : goal.returns-in_ok-judged_under-in-Ok-clause-answer
returns-in_ok-judged_under-in-Ok-clause-answer c =
    inr (c.in_ok-judged_under-in-Ok.field-0, refl, (meaning_of c.in-Ok.kept, c.in-Ok.ensures.accepted c.args.texts.now.policy.items (rw c.as_slice.ensures.value at c.in_ok-check_text.ensures), c.in_ok-judged_under-in-Ok.ensures.judging))
