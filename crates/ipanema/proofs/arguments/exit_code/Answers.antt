-- The call ends as the top call does, or there was no memory for the words.
use Rattle.std.proofs.Common.{Err, ◌∙◌}
use Rattle.std.specs.Process.{exit_status}
use Rattle.sched_io.proofs.PutsLemmas.{puts_none}
use Rattle.command_words.specs.Command.{asked_by}
use Rattle.ipanema_cli.specs.Ends.{no_memory}
use Rattle.ipanema_cli.specs.declared.stop.Stop.TheVariants as stop
use Rattle.ipanema_cli.proofs.CauseLemmas.{causes}
use Rattle.ipanema_cli.proofs.LoadLemmas.{none_loaded}
use Rattle.ipanema_cli.proofs.TruthLemmas.{truths}
use Rattle.ipanema.specs.Arguments.{Anyone, words_given}
use Rattle.ipanema.proofs.arguments.exit_code.Goals as goal

pub returns-in-Ok-clause-ends : goal.returns-in-Ok-clause-ends
returns-in-Ok-clause-ends g c =
    let ends = rw c.in-Ok.ensures at c.ipanema.ensures.ends in
    rw c.from.ensures ends

pub returns-in-Ok-clause-causes : goal.returns-in-Ok-clause-causes
returns-in-Ok-clause-causes g c = causes _ _ _ _ _ _ (returns-in-Ok-clause-ends g c)

pub returns-in-Ok-clause-truthful : goal.returns-in-Ok-clause-truthful
returns-in-Ok-clause-truthful g c =
    let truthful = rw c.in-Ok.ensures at c.ipanema.ensures.truthful in
    rw c.from.ensures truthful

pub returns-in-Ok-clause-loads : goal.returns-in-Ok-clause-loads
returns-in-Ok-clause-loads g c = rw c.in-Ok.ensures at c.ipanema.ensures.loads

pub returns-in-Ok-clause-loaded : goal.returns-in-Ok-clause-loaded
returns-in-Ok-clause-loaded g c = let loaded = rw c.in-Ok.ensures at c.ipanema.ensures.loaded in rw c.from.ensures loaded

pub returns-in-Err-clause-causes : goal.returns-in-Err-clause-causes
returns-in-Err-clause-causes g c = causes _ _ _ _ _ _ (no_memory (c.from-in-Err.ensures ∙ c.code.ensures) (puts_none (g.S.Sink.shown c.args.out.now)))

pub returns-in-Err-clause-loads : goal.returns-in-Err-clause-loads
returns-in-Err-clause-loads g c = none_loaded _ _ _

pub returns-in-Err-clause-truthful : goal.returns-in-Err-clause-truthful
returns-in-Err-clause-truthful g c =
    let shown = g.S.Sink.shown c.args.out.now in
    truths Anyone (asked_by (words_given c.args.args)) (g.F.Files.told c.args.files.now) (Unit {0}) shown shown (exit_status c.from-in-Err.result) (Err stop.Memory) tt tt
    (c.from-in-Err.ensures ∙ c.code.ensures, puts_none shown)
