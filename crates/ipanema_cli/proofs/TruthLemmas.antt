-- From what a call came to, and how it ends by that, to the truth of what it says.
use Rattle.std.proofs.Common.{◌≡◌, inl, inr, ℕ, List, [], ◌∷◌, Option, Result, Ok, Err, IfErr, IfOk, ap, arith, refl, sym, ◌∙◌}
use Rattle.sched_io.specs.Shown.{Shown}
use Rattle.sched_io.specs.Told.{Told}
use Rattle.command_words.specs.Command.{Asked}
use Rattle.ipanema_cli.specs.Answers.{status_of}
use Rattle.ipanema_cli.specs.Commands.{AskedFile, asked_files}
use Rattle.ipanema_cli.specs.Ends.{Concludes, Writes}
use Rattle.ipanema_cli.specs.Files.{IsUnreadOf}
use Rattle.ipanema_cli.specs.Replies.{IsGatedAnswer, replies, too_long}
use Rattle.ipanema_cli.specs.Status.{code_of}
use Rattle.ipanema_cli.specs.Stops.{IsStop}
use Rattle.ipanema_cli.specs.Truths.{IsTruthful}
use Rattle.ipanema_cli.specs.declared.answers.Answer.{Answer}
use Rattle.ipanema_cli.specs.declared.answers.Answer.TheVariants as answer
use Rattle.ipanema_cli.specs.declared.stop.Stop.{Stop}
use Rattle.ipanema_cli.specs.declared.stop.Stop.TheVariants as stop
use Rattle.ipanema_cli.proofs.CommandLaw.{IsSome}
use Rattle.ipanema_cli.proofs.Laws.{law_of}
use Rattle.ipanema_cli.proofs.Stopped.{at_4, at_5, at_6}
use Rattle.ipanema_cli.proofs.WritesLemmas.{code_among, no_stop, whole}

-- where a file wasn't read, there is one
pub some_file : (told : List ℕ → Told) (fault : Type 0) (files : List AskedFile) → IsUnreadOf told fault files → IsSome files
some_file told fault [] unread = unread
some_file told fault (file ∷ files) unread = tt

module _ (Passed : ℕ → ℕ → Type 0) (asked : Option Asked) (told : List ℕ → Told) where
  -- a whole answer says what is true
  shown : (before after : Shown) (code : ℕ) (a : Answer) → IsGatedAnswer Passed asked told a → Writes a before after code → code ≡ code_of (status_of a) → IsTruthful Passed asked told before.written after.written code
  shown before after code a (replies text read is) writes own =
      (law_of Passed asked).shows told text before.written after.written code a read is own (whole a before after code writes (λ five. (no_stop a).1 (sym own ∙ five)))
  shown before after code a (too_long which same long) writes own =
      (law_of Passed asked).long told before.written after.written code which long (own ∙ ap (λ (b : Answer). code_of (status_of b)) same)

  -- and one that is cut off says nothing
  answers : (before after : Shown) (code : ℕ) (a : Answer) → IsGatedAnswer Passed asked told a → Writes a before after code → IsTruthful Passed asked told before.written after.written code
  answers before after code a is writes = elim (code_among a before after code writes) [
    | inl own ↦ shown before after code a is writes own
    | inr e ↦ (law_of Passed asked).stopped told before.written after.written code (at_5 e) (λ h. absurd (omega (arith, e, h)))
  ]

  pub truths : (read_fault : Type 0) (before after : Shown) (code : ℕ) (r : Result Answer Stop) → IfOk r (IsGatedAnswer Passed asked told) → IfErr r (IsStop asked told read_fault) → Concludes r before after code
      → IsTruthful Passed asked told before.written after.written code
  truths read_fault before after code (Ok a) is why end = answers before after code a is end
  truths read_fault before after code (Err (stop.TooLong kind)) is why end = answers before after code (answer.TooLong kind) (too_long kind refl why) end
  truths read_fault before after code (Err stop.Unread) is why end =
      (law_of Passed asked).stopped told before.written after.written code (at_4 end.0) (λ h. some_file told read_fault (asked_files asked) why)
  truths read_fault before after code (Err stop.Memory) is why end =
      (law_of Passed asked).stopped told before.written after.written code (at_6 end.0) (λ h. absurd (omega (arith, end.0, h)))
