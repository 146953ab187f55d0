-- When each status comes, and what is then written.
use Rattle.std.specs.Prelude.{◌≡◌, ◌⊎◌, ℕ, ◌<◌, List, [], ◌∷◌, Option, None, IsTrue, codes, length, ◌==◌}
use Rattle.std.specs.List.{list_any}
use Rattle.sched_io.specs.Puts.{WritesPart}
use Rattle.sched_io.specs.Shown.{Shown}
use Rattle.sched_io.specs.Told.{Told, holds}
use Rattle.sched_io.specs.Written.{Adds}
use Rattle.obligations.specs.declared.names.ObName.{ObName}
use Rattle.policy_answers.specs.Checks.{IsCrowded}
use Rattle.policy_answers.specs.Lines.{refusal_line}
use Rattle.policy_answers.specs.declared.reading.Refusal.TheVariants.{Crowded}
use Rattle.command_words.specs.Command.{Asked}
use Rattle.ipanema_cli.specs.Answers.{lines_of}
use Rattle.ipanema_cli.specs.Commands.{asked_files, statuses_of}
use Rattle.ipanema_cli.specs.Files.{IsFileOf, IsTooLongOf}
use Rattle.ipanema_cli.specs.Replies.{IsAnswer}
use Rattle.ipanema_cli.specs.Stops.{IsUnread}
use Rattle.ipanema_cli.specs.Texts.{MayRead, room_of, too_long_line}
use Rattle.ipanema_cli.specs.declared.answers.Answer.{Answer}
use Rattle.ipanema_cli.specs.declared.texts.TextKind.{TextKind}
use Rattle.ipanema_cli.specs.declared.texts.TextKind.TheVariants as kind

-- the status is one of these
abbrev pub OneOf : List ℕ → ℕ → Type 0
OneOf statuses code = IsTrue (list_any (λ status. status == code) statuses)

-- a put failed, and of the lines of an answer that the call might have not all were written
abbrev pub StopsIn : Option Asked → (List ℕ → Told) → Shown → Shown → Type 0
StopsIn asked told before after = (a : Answer) × IsAnswer asked told a × WritesPart (lines_of a) before after

-- a text may be longer than its limit, and its line is written
abbrev pub SaysTooLong : Option Asked → (List ℕ → Told) → Option (List ℕ) → Option (List ℕ) → Type 0
SaysTooLong asked told before after =
    (which : TextKind) × IsTooLongOf which told (asked_files asked) × Adds (too_long_line which) before after

-- the policy's file may hold a text that spells a policy with an obligation that has too many cases, the first such
-- one, and its line is written
abbrev pub SaysCrowded : Option Asked → (List ℕ → Told) → Option (List ℕ) → Option (List ℕ) → Type 0
SaysCrowded asked told before after =
    (policy text : List ℕ) × (name : ObName) × IsFileOf asked kind.Policy policy
    × MayRead kind.Policy (told policy) text × IsCrowded text name × Adds (refusal_line (Crowded name)) before after

-- Each status has its cause.
pub record HasCause (asked : Option Asked) (told : List ℕ → Told) (read_fault : Type 0) (before after : Shown)
    (code : ℕ) : Type 0 where
  -- it is one that the command may end with
  pub known : OneOf (statuses_of asked) code
  -- the outside failed in this call, or a file of the command is told to be missing; and nothing is written
  pub unread : code ≡ 4 → IsUnread asked told read_fault × Adds [] before.written after.written
  -- the outside failed in this call, before all of an output was written
  pub unwritten : code ≡ 5 → StopsIn asked told before after
  -- the one free answer
  pub no_memory : code ≡ 6 → Adds [] before.written after.written
  -- words that are no command, which alone may end with 7
  pub bad_words : asked ≡ None → code ≡ 7 → Adds (codes "bad words\n") before.written after.written
  -- a file of the command may be longer than its limit, and one that is told to be gets no other answer; or an
  -- obligation has too many cases
  pub too_much : code ≡ 10 →
      SaysTooLong asked told before.written after.written ⊎ SaysCrowded asked told before.written after.written
  pub past_limit : (which : TextKind) (name text : List ℕ) → IsFileOf asked which name → told name ≡ holds text →
      room_of which < length text → OneOf (4 ∷ 5 ∷ 6 ∷ 10 ∷ []) code
