-- The promises follow from what the words came to, and from how the call ends by that.
use Rattle.ipanema_cli.proofs.CauseLemmas.{causes}
use Rattle.ipanema_cli.proofs.Concluding.{ends, has_answer, says_unread}
use Rattle.ipanema_cli.proofs.GatedAnswers.{passed_by_any}
use Rattle.ipanema_cli.proofs.TruthLemmas.{truths}
use Rattle.std.proofs.Common.{◌≢◌, Some, codes, refl, slice_get}
use Rattle.command_words.specs.Command.{words_of}
use Rattle.ipanema_cli.proofs.SerialWords.{serial_words}
use Rattle.ipanema_cli.proofs.top.ipanema.Goals as goal

pub returns-then-may_take_threads-clause-ends : goal.returns-then-may_take_threads-clause-ends
returns-then-may_take_threads-clause-ends g c =
    let to = c.answer.ensures in
    rw (← c.as_slice-list.ensures.value) (ends _ _ _ (g.G.Gate.passed c.args.gate.now) _ _ _ c.answer.result to.answer to.stop c.conclude.ensures.concludes)

pub returns-then-may_take_threads-clause-causes : goal.returns-then-may_take_threads-clause-causes
returns-then-may_take_threads-clause-causes g c = causes _ _ _ _ _ _ (returns-then-may_take_threads-clause-ends g c)

pub returns-then-may_take_threads-clause-truthful : goal.returns-then-may_take_threads-clause-truthful
returns-then-may_take_threads-clause-truthful g c =
    let to = c.answer.ensures in
    rw (← c.as_slice-list.ensures.value) (truths (g.G.Gate.passed c.args.gate.now) _ _ _ _ _ _ c.answer.result to.answer to.stop c.conclude.ensures.concludes)

pub returns-then-may_take_threads-clause-loads : goal.returns-then-may_take_threads-clause-loads
returns-then-may_take_threads-clause-loads g c = rw (← c.as_slice-list.ensures.value) c.answer.ensures.loads

pub returns-then-may_take_threads-clause-loaded : goal.returns-then-may_take_threads-clause-loaded
returns-then-may_take_threads-clause-loaded g c one =
    has_answer _ _ _ _ c.answer.result (rw (← c.as_slice-list.ensures.value) c.answer.ensures.loaded) c.conclude.ensures.concludes one

pub returns-then-may_take_threads-clause-calm : goal.returns-then-may_take_threads-clause-calm
returns-then-may_take_threads-clause-calm g c = says_unread _ _ _ _ c.answer.result c.answer.ensures.calm c.conclude.ensures.concludes

pub serial_command-requires : goal.serial_command-requires
serial_command-requires g c =
    let words = words_of c.args.words.now.items in
    let no_run : slice_get words 0 ≢ Some (codes "run") = rw (← c.as_slice-list.ensures.value) (c.if-may_take_threads.ensures.no_run refl) in
    let no_crew : slice_get words 0 ≢ Some (codes "crew") = rw (← c.as_slice-list.ensures.value) (c.if-may_take_threads.ensures.no_crew refl) in
    record { serial = serial_words words no_run no_crew }

pub returns-clause-truthful : goal.returns-clause-truthful
returns-clause-truthful g c =
    let words = words_of c.args.words.now.items in
    let no_run : slice_get words 0 ≢ Some (codes "run") = rw (← c.as_slice-list.ensures.value) (c.if-may_take_threads.ensures.no_run refl) in
    let no_crew : slice_get words 0 ≢ Some (codes "crew") = rw (← c.as_slice-list.ensures.value) (c.if-may_take_threads.ensures.no_crew refl) in
    passed_by_any (g.G.Gate.passed c.args.gate.now) _ _ _ _ _ (serial_words words no_run no_crew) c.serial_command.ensures.truthful
