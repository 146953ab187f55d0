-- From what a call came to, to how it ends.
use Rattle.std.proofs.Common.{◌≡◌, ◌⊎◌, ℕ, List, [], ◌∷◌, Option, Result, Ok, Err, IfErr, IfOk, IsErrOf, OnOk, inl, inr, refl, subst}
use Rattle.sched_io.specs.Shown.{Shown}
use Rattle.sched_io.specs.Told.{Told}
use Rattle.command_words.specs.Command.{Asked}
use Rattle.ipanema_cli.specs.Replies.{IsGatedAnswer, too_long}
use Rattle.ipanema_cli.specs.Causes.{OneOf}
use Rattle.ipanema_cli.specs.Ends.{Concludes, Ends, Writes, answered, cut_off, no_memory, unread, written}
use Rattle.ipanema_cli.specs.Stops.{IsStop}
use Rattle.ipanema_cli.specs.declared.answers.Answer.{Answer}
use Rattle.ipanema_cli.specs.declared.answers.Answer.TheVariants as answer
use Rattle.ipanema_cli.specs.declared.stop.Stop.{Stop}
use Rattle.ipanema_cli.specs.declared.stop.Stop.TheVariants as stop
use Rattle.ipanema_cli.specs.declared.texts.TextKind.{TextKind}
use Rattle.ipanema_cli.proofs.GatedAnswers.{plain}

-- the statuses with which a text was answered, or no command was
abbrev answering : List ℕ
answering = 0 ∷ 1 ∷ 2 ∷ 3 ∷ 7 ∷ 8 ∷ 9 ∷ 11 ∷ []

module _ (before after : Shown) (code : ℕ) where
  -- the call ends with its answer, or with what stops it
  pub ends : (Passed : ℕ → ℕ → Type 0) (asked : Option Asked) (told : List ℕ → Told) (fault : Type 0) (r : Result Answer Stop) → IfOk r (IsGatedAnswer Passed asked told)
      → IfErr r (IsStop asked told fault) → Concludes r before after code → Ends asked told fault before after code
  ends Passed asked told fault (Ok a) is why end = answered a (plain Passed asked told a is) end
  ends Passed asked told fault (Err (stop.TooLong kind)) is why end = answered (answer.TooLong kind) (too_long kind refl why) end
  ends Passed asked told fault (Err stop.Unread) is why end = unread end.0 why end.1
  ends Passed asked told fault (Err stop.Memory) is why end = no_memory end.0 end.1

  long_line : (kind : TextKind) → Writes (answer.TooLong kind) before after code → OneOf answering code → ⊥
  long_line kind (written is lines) one = let bad = rw is at one in cc
  long_line kind (cut_off is lines) one = let bad = rw is at one in cc

  -- with such a status it came to an answer
  pub has_answer : (P : Type 0) (r : Result Answer Stop) → OnOk r P → Concludes r before after code → OneOf answering code → P
  has_answer P (Ok a) holds end one = holds
  has_answer P (Err (stop.TooLong kind)) holds end one = absurd (long_line kind end one)
  has_answer P (Err stop.Unread) holds end one = absurd (let bad = rw end.0 at one in cc)
  has_answer P (Err stop.Memory) holds end one = absurd (let bad = rw end.0 at one in cc)

  -- where a file wasn't read, it ends with that
  pub says_unread : (P : Type 0) (r : Result Answer Stop) → IsErrOf r stop.Unread ⊎ P → Concludes r before after code → (code ≡ 4) ⊎ P
  says_unread P r (inr holds) end = inr holds
  says_unread P r (inl is) end = inl ((subst (λ (q : Result Answer Stop). Concludes q before after code) is end).0)
