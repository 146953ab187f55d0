-- The promises follow from what the words came to, and from how the call ends by that. An answer says nothing of a gate here.
use Rattle.std.proofs.Common.{ℕ, List, Option, Result, Ok, Err, IfOk}
use Rattle.sched_io.specs.Told.{Told}
use Rattle.command_words.specs.Command.{Asked, IsSerial}
use Rattle.ipanema_cli.specs.Replies.{IsAnswer, IsGatedAnswer}
use Rattle.ipanema_cli.specs.Truths.{NonePassed}
use Rattle.ipanema_cli.specs.declared.answers.Answer.{Answer}
use Rattle.ipanema_cli.specs.declared.stop.Stop.{Stop}
use Rattle.ipanema_cli.proofs.CauseLemmas.{causes}
use Rattle.ipanema_cli.proofs.Concluding.{ends, has_answer, says_unread}
use Rattle.ipanema_cli.proofs.GatedAnswers.{ungated}
use Rattle.ipanema_cli.proofs.TruthLemmas.{truths}
use Rattle.ipanema_cli.proofs.top.serial_command.Goals as goal

-- where that plays no cores side by side, the answer says nothing of a gate
gated : (Passed : ℕ → ℕ → Type 0) (asked : Option Asked) (told : List ℕ → Told) (r : Result Answer Stop)
    → IsSerial asked → IfOk r (IsAnswer asked told) → IfOk r (IsGatedAnswer Passed asked told)
gated Passed asked told (Ok a) other is = ungated Passed asked told a other is
gated Passed asked told (Err e) other is = is

pub serial_answer-requires : goal.serial_answer-requires
serial_answer-requires g c = record { serial = rw c.as_slice.ensures.value c.requires.serial }

pub returns-clause-ends : goal.returns-clause-ends
returns-clause-ends g c =
    let to = c.serial_answer.ensures in
    rw (← c.as_slice.ensures.value) (ends _ _ _ NonePassed _ _ _ c.serial_answer.result (gated NonePassed _ _ c.serial_answer.result (rw c.as_slice.ensures.value c.requires.serial) to.answer) to.stop c.conclude.ensures.concludes)

pub returns-clause-causes : goal.returns-clause-causes
returns-clause-causes g c = causes _ _ _ _ _ _ (returns-clause-ends g c)

pub returns-clause-truthful : goal.returns-clause-truthful
returns-clause-truthful g c =
    let to = c.serial_answer.ensures in
    rw (← c.as_slice.ensures.value) (truths NonePassed _ _ _ _ _ _ c.serial_answer.result (gated NonePassed _ _ c.serial_answer.result (rw c.as_slice.ensures.value c.requires.serial) to.answer) to.stop c.conclude.ensures.concludes)

pub returns-clause-loads : goal.returns-clause-loads
returns-clause-loads g c = rw (← c.as_slice.ensures.value) c.serial_answer.ensures.loads

pub returns-clause-loaded : goal.returns-clause-loaded
returns-clause-loaded g c one =
    has_answer _ _ _ _ c.serial_answer.result (rw (← c.as_slice.ensures.value) c.serial_answer.ensures.loaded) c.conclude.ensures.concludes one

pub returns-clause-calm : goal.returns-clause-calm
returns-clause-calm g c = says_unread _ _ _ _ c.serial_answer.result c.serial_answer.ensures.calm c.conclude.ensures.concludes
