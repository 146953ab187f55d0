use Rattle.std.proofs.Common.{inr, refl}
use Rattle.policy_tree.specs.Meaning.{meaning_of}
use Rattle.ipanema_cli.proofs.Failing.{if_failed}
use Rattle.ipanema_cli.proofs.answers.run_texts.Goals as goal

pub returns-in_err-outcome-in-Ok-clause-memory : goal.returns-in_err-outcome-in-Ok-clause-memory
returns-in_err-outcome-in-Ok-clause-memory g c = if_failed _ c.from_residual-in_err-outcome-in-Ok.result c.from_residual-in_err-outcome-in-Ok.ensures.1

pub returns-in_ok-outcome-in-Ok-clause-answer : goal.returns-in_ok-outcome-in-Ok-clause-answer
returns-in_ok-outcome-in-Ok-clause-answer g c =
    inr (c.in_ok-outcome-in-Ok.outcome, refl, (meaning_of c.in-Ok.accepted, c.in-Ok.ensures.accepted c.args.policy.now c.in_ok-check_text.ensures, (c.in_ok-outcome-in-Ok.ensures.run, c.in_ok-outcome-in-Ok.ensures.passed)))
