-- How a call may end: with its answer, or stopped by a fault of the outside or by want of memory.
use Rattle.std.specs.Prelude.{◌≡◌, ℕ, List, [], Option, Result, Ok, Err}
use Rattle.sched_io.specs.Puts.{WritesAll, WritesPart}
use Rattle.sched_io.specs.Shown.{Shown}
use Rattle.sched_io.specs.Told.{Told}
use Rattle.ipanema_cli.specs.Answers.{lines_of, status_of}
use Rattle.ipanema_cli.specs.Replies.{IsAnswer}
use Rattle.command_words.specs.Command.{Asked}
use Rattle.ipanema_cli.specs.Status.{code_of}
use Rattle.ipanema_cli.specs.Stops.{IsUnread}
use Rattle.ipanema_cli.specs.declared.answers.Answer.{Answer}
use Rattle.ipanema_cli.specs.declared.answers.Answer.TheVariants as answer
use Rattle.ipanema_cli.specs.declared.status.Status.TheVariants as status
use Rattle.ipanema_cli.specs.declared.stop.Stop.{Stop}
use Rattle.ipanema_cli.specs.declared.stop.Stop.TheVariants as stop

-- How a call ends that has this answer: its lines are written and its status is given, or a put fails.
pub data Writes (answer : Answer) (before after : Shown) (code : ℕ) : Type 0 where
  written : code ≡ code_of (status_of answer) → WritesAll (lines_of answer) before after →
      Writes answer before after code
  cut_off : code ≡ code_of status.WriteFault → WritesPart (lines_of answer) before after →
      Writes answer before after code

-- How a call ends that asks for this, or for nothing, with files of which this is told.
pub data Ends (asked : Option Asked) (told : List ℕ → Told) (read_fault : Type 0) (before after : Shown)
    (code : ℕ) : Type 0 where
  answered : (answer : Answer) → IsAnswer asked told answer → Writes answer before after code →
      Ends asked told read_fault before after code
  unread : code ≡ code_of status.ReadFault → IsUnread asked told read_fault → WritesAll [] before after →
      Ends asked told read_fault before after code
  no_memory : code ≡ code_of status.Memory → WritesAll [] before after → Ends asked told read_fault before after code

-- How a call ends that came to this: its answer is given, or the line of a text that is too long; or it writes nothing.
abbrev pub Concludes : Result Answer Stop → Shown → Shown → ℕ → Type 0
Concludes (Ok answer) before after code = Writes answer before after code
Concludes (Err (stop.TooLong kind)) before after code = Writes (answer.TooLong kind) before after code
Concludes (Err stop.Unread) before after code = (code ≡ code_of status.ReadFault) × WritesAll [] before after
Concludes (Err stop.Memory) before after code = (code ≡ code_of status.Memory) × WritesAll [] before after
