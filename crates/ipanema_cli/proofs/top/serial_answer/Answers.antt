-- The texts of the files are read, and a size is one that a made trace may have.
use Rattle.std.proofs.Common.{◌∙◌, IfOk, Option, subst, sym}
use Rattle.command_words.specs.Command.{Asked, IsSerial, words_of}
use Rattle.command_words.proofs.Sizes.{asked-sized}
use Rattle.trace_run.specs.Runs.{IsRunOf}
use Rattle.ipanema_cli.specs.Replies.{IsAnswer}
use Rattle.ipanema_cli.specs.Texts.{text_of}
use Rattle.ipanema_cli.proofs.GatedAnswers.{answered_by}
use Rattle.ipanema_cli.proofs.LoadLemmas.{none_loaded}
use Rattle.ipanema_cli.proofs.top.serial_answer.Goals as goal

pub returns-in_err-request-clause-loads : goal.returns-in_err-request-clause-loads
returns-in_err-request-clause-loads g c = none_loaded _ _ _

pub reply-requires-clause-serial : goal.reply-requires-clause-serial
reply-requires-clause-serial g c = subst IsSerial (sym c.in_ok-request.ensures.asks) c.requires.serial

pub reply-requires-clause-made : goal.reply-requires-clause-made
reply-requires-clause-made g c seed size is = (asked-sized (words_of c.args.words.now)).made seed size (sym c.in_ok-request.ensures.asks ∙ is)

pub reply-requires-clause-benched : goal.reply-requires-clause-benched
reply-requires-clause-benched g c seed size is = (asked-sized (words_of c.args.words.now)).benched seed size (sym c.in_ok-request.ensures.asks ∙ is)

pub returns-clause-answer : goal.returns-clause-answer
returns-clause-answer g c =
    subst (λ (it : Option Asked). IfOk c.reply.result (IsAnswer it (g.F.Files.told c.args.files.now))) c.in_ok-request.ensures.asks
    (answered_by IsRunOf _ _ (text_of c.in_ok-texts.texts) c.reply.result c.in_ok-texts.ensures.texts c.reply.ensures.answer)
