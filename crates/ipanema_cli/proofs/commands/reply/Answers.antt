-- A size is one that a made trace may have, and what takes more than one thread isn't asked here.
use Rattle.std.proofs.Common.{ℕ, List, IfOk, ap, subst, sym}
use Rattle.cert_file.specs.Wrong.{Proves}
use Rattle.command_words.specs.Asks.{asked}
use Rattle.command_words.specs.Command.{IsSerial}
use Rattle.command_words.specs.declared.request.Request.{Request}
use Rattle.trace_run.specs.Runs.{IsRunOf}
use Rattle.ipanema_cli.specs.PolicyAnswers.{IsHeader}
use Rattle.ipanema_cli.specs.Replies.{Replies, RepliesDraft, RepliesExport}
use Rattle.ipanema_cli.specs.Texts.{text_of}
use Rattle.ipanema_cli.proofs.commands.reply.Goals as goal

pub make-requires : goal.make-requires
make-requires c = c.requires.made c.in-Make.seed c.in-Make.size (ap asked c.in-Make.is)

pub bench-requires : goal.bench-requires
bench-requires c = c.requires.benched c.in-Bench.seed c.in-Bench.size (ap asked c.in-Bench.is)

pub unreachable-requires : goal.unreachable-requires
unreachable-requires c = subst (λ request. IsSerial (asked request)) c.in-Run.is c.requires.serial

pub unreachable-requires-in-Crew : goal.unreachable-requires-in-Crew
unreachable-requires-in-Crew c = subst (λ request. IsSerial (asked request)) c.in-Crew.is c.requires.serial

pub returns-in-Prove-clause-answer : goal.returns-in-Prove-clause-answer
returns-in-Prove-clause-answer c =
    subst (λ (r : Request). IfOk c.export_text.result (Replies IsRunOf (asked r) (text_of c.args.texts.now))) (sym c.in-Prove.is)
    (subst (λ (p : List ℕ). IfOk c.export_text.result (RepliesExport Proves p)) c.as_slice-policy.ensures.value c.export_text.ensures.answer)

pub returns-in-Emit-clause-answer : goal.returns-in-Emit-clause-answer
returns-in-Emit-clause-answer c =
    subst (λ (r : Request). IfOk c.export_text-in-Emit.result (Replies IsRunOf (asked r) (text_of c.args.texts.now))) (sym c.in-Emit.is)
    (subst (λ (p : List ℕ). IfOk c.export_text-in-Emit.result (RepliesExport IsHeader p)) c.as_slice-policy.ensures.value c.export_text-in-Emit.ensures.answer)

pub returns-in-Draft-clause-answer : goal.returns-in-Draft-clause-answer
returns-in-Draft-clause-answer c =
    subst (λ (r : Request). IfOk c.draft.result (Replies IsRunOf (asked r) (text_of c.args.texts.now))) (sym c.in-Draft.is)
    (subst (λ (p : List ℕ). IfOk c.draft.result (RepliesDraft p)) c.as_slice-policy.ensures.value c.draft.ensures.answer)

pub returns-in-Make-clause-answer : goal.returns-in-Make-clause-answer
returns-in-Make-clause-answer c =
    subst (λ (r : Request). IfOk c.make.result (Replies IsRunOf (asked r) (text_of c.args.texts.now))) (sym c.in-Make.is) c.make.ensures.answer
