-- What is written of an accepted policy is of the one that it lends.
use Rattle.std.proofs.Common.{◌≡◌, IfOk, subst, sym}
use Rattle.std.proofs.lemmas.Result.{IfOk-weaker}
use Rattle.policy_tree.specs.declared.typed.Policy.{Policy}
use Rattle.policy_tree.specs.Meaning.{meaning_of}
use Rattle.cert_file.specs.Answers.{IsWritten}
use Rattle.c_printer.specs.CText.{c_text}
use Rattle.ipanema_cli.specs.PolicyAnswers.{exporting_of}
use Rattle.ipanema_cli.specs.declared.kinds.ExportCommand.{ExportCommand}
use Rattle.ipanema_cli.proofs.exports.exported_of.Goals as goal

pub returns-in-Prove : goal.returns-in-Prove
returns-in-Prove c =
    subst (λ (command : ExportCommand). IfOk c.write_certs.result (λ text. exporting_of command (meaning_of c.args.accepted.now) text.items))
    (sym c.in-Prove.is) (IfOk-weaker c.write_certs.result _ _ (λ text (written : IsWritten (meaning_of c.args.accepted.now) text.items). written.proves) c.write_certs.ensures)

pub returns-in_ok-c_text-in-Emit : goal.returns-in_ok-c_text-in-Emit
returns-in_ok-c_text-in-Emit c =
    let text = c.in_ok-c_text-in-Emit.field-0.items in
    subst (λ (command : ExportCommand). exporting_of command (meaning_of c.args.accepted.now) text) (sym c.in-Emit.is)
    (subst (λ (policy : Policy). text ≡ c_text (meaning_of policy)) c.policy.ensures.policy c.in_ok-c_text-in-Emit.ensures)
