-- The call's promises over the sink are promises over the writer, which comes back from the buffer.
use Rattle.std.proofs.Common.{◌∙◌, ap, refl, sym}
use Rattle.std.specs.Io.KnownBytes.{append_known}
use Rattle.std.specs.Process.{exit_status}
use Rattle.sched_io.specs.Faults.{Rose}
use Rattle.sched_io.specs.Shown.{Shown}
use Rattle.command_words.specs.Command.{asked_by}
use Rattle.ipanema_cli.specs.Ends.{Ends}
use Rattle.ipanema_cli.proofs.CauseLemmas.{causes}
use Rattle.ipanema_cli.proofs.LoadLemmas.{none_loaded}
use Rattle.ipanema.specs.Arguments.{words_given}
use Rattle.ipanema.proofs.Buffered.{nothing_behind, untold_before, whole}
use Rattle.ipanema.proofs.process.carry_out.Goals as goal

pub returns-in_default-clause-loads : goal.returns-in_default-clause-loads
returns-in_default-clause-loads g c = none_loaded _ _ _

pub returns-in-Ok-into_inner-clause-ends : goal.returns-in-Ok-into_inner-clause-ends
returns-in-Ok-into_inner-clause-ends g c = (
  _,
  whole (λ (before after : Shown). Ends (asked_by (words_given c.args.args)) (g.F.Files.told c.args.files.now)
      (Rose (g.F.Files.faults c.args.files.now) (g.F.Files.faults c.exit_code-code.new.files)) before after (exit_status c.exit_code-code.result))
      _ _ _ _ _ c.exit_code-code.ensures.ends c.new-out.ensures.faults refl refl
      (ap (λ w. append_known (g.W.Write.contents w.inner) w.buf.items) c.new-out.ensures.writer
      ∙ (ap (λ w. append_known (g.W.Write.contents w) c.in-Ok.buffer.buf.items) c.in-Ok.ensures.inner ∙ nothing_behind _ _ c.in-Ok.ensures.empty))
      (ap (λ w. append_known (g.W.Write.contents w.inner) w.buf.items) (sym c.into_writer.ensures))
      c.in-Ok-into_inner.ensures.ok (λ none. c.requires _ _ (untold_before _ _ none)),
)

pub returns-in-Ok-into_inner-clause-causes : goal.returns-in-Ok-into_inner-clause-causes
returns-in-Ok-into_inner-clause-causes g c =
    let ends = returns-in-Ok-into_inner-clause-ends g c in
    (ends.0, causes _ _ _ _ _ _ ends.1)
