use Rattle.std.proofs.Common.{inr, refl}
use Rattle.policy_tree.specs.Meaning.{meaning_of}
use Rattle.ipanema_cli.proofs.Failing.{if_failed}
use Rattle.ipanema_cli.proofs.exports.export_text.Goals as goal

pub returns-in_err-exported_of-in-Ok-clause-memory : goal.returns-in_err-exported_of-in-Ok-clause-memory
returns-in_err-exported_of-in-Ok-clause-memory c = if_failed _ c.from_residual-in_err-exported_of-in-Ok.result c.from_residual-in_err-exported_of-in-Ok.ensures.1

pub returns-in_ok-exported_of-in-Ok-clause-answer : goal.returns-in_ok-exported_of-in-Ok-clause-answer
returns-in_ok-exported_of-in-Ok-clause-answer c =
    inr (c.in_ok-exported_of-in-Ok.field-0, refl, (meaning_of c.in-Ok.accepted, c.in-Ok.ensures.accepted c.args.policy.now c.in_ok-check_text.ensures, c.in_ok-exported_of-in-Ok.ensures))
