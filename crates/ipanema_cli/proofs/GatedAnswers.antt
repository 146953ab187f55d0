-- Answers, with what they say of the gate and without.
use Rattle.std.proofs.Common.{◌≡◌, ℕ, List, inl, inr, Option, Some, Result, Ok, Err, IfErr, IfOk, subst, sym}
use Rattle.sched_io.specs.Told.{Told}
use Rattle.command_words.specs.Command.{Asked, IsSerial, crew, run}
use Rattle.trace_run.specs.Runs.{IsGatedRunOf, IsRunOf}
use Rattle.ipanema_cli.specs.Commands.{asked_files}
use Rattle.ipanema_cli.specs.Files.{AreRead}
use Rattle.ipanema_cli.specs.Replies.{Answers, IsAnswer, IsGatedAnswer, Replies, RepliesPlay, replies, too_long}
use Rattle.ipanema_cli.specs.Stops.{IsStop}
use Rattle.ipanema_cli.specs.TraceAnswers.{Playing}
use Rattle.ipanema_cli.specs.Truths.{IsTruthful, NonePassed}
use Rattle.ipanema_cli.specs.declared.answers.Answer.{Answer}
use Rattle.ipanema_cli.specs.declared.stop.Stop.{Stop}
use Rattle.ipanema_cli.specs.declared.stop.Stop.TheVariants as stop
use Rattle.ipanema_cli.specs.declared.texts.TextKind.{TextKind}
use Rattle.ipanema_cli.specs.declared.texts.TextKind.TheVariants as kind

module _ (Passed : ℕ → ℕ → Type 0) where
  -- what a run answers, without the gate
  plain_run : (policy trace : List ℕ) (a : Answer) → RepliesPlay (IsGatedRunOf Passed) policy trace a → RepliesPlay IsRunOf policy trace a
  plain_run policy trace a (inl is) = inl is
  plain_run policy trace a (inr (outcome, same, is)) = inr (outcome, same, (is.0, is.1, is.2.0))

  plain_reply : (asked : Option Asked) (text : TextKind → List ℕ) (a : Answer) → Replies (IsGatedRunOf Passed) asked text a → Replies IsRunOf asked text a
  plain_reply (Some (run policy trace)) text a is = plain_run (text kind.Policy) (text kind.Trace) a is
  plain_reply (Some (crew policy trace workers)) text a is = plain_run (text kind.Policy) (text kind.Trace) a is
  plain_reply asked text a is = is

  pub plain : (asked : Option Asked) (told : List ℕ → Told) (a : Answer) → IsGatedAnswer Passed asked told a → IsAnswer asked told a
  plain asked told a (replies text read is) = replies text read (plain_reply asked text a is)
  plain asked told a (too_long which same long) = too_long which same long

  -- what plays no cores side by side says nothing of the gate
  pub gated_reply : (asked : Option Asked) (text : TextKind → List ℕ) (a : Answer) → IsSerial asked → Replies IsRunOf asked text a → Replies (IsGatedRunOf Passed) asked text a
  gated_reply (Some (run policy trace)) text a other is = absurd other
  gated_reply (Some (crew policy trace workers)) text a other is = absurd other
  gated_reply asked text a other is = is

  pub ungated : (asked : Option Asked) (told : List ℕ → Told) (a : Answer) → IsSerial asked → IsAnswer asked told a → IsGatedAnswer Passed asked told a
  ungated asked told a other (replies text read is) = replies text read (gated_reply asked text a other is)
  ungated asked told a other (too_long which same long) = too_long which same long

  -- and neither does what is said of it
  pub passed_by_any : (asked : Option Asked) (told : List ℕ → Told) (before after : Option (List ℕ)) (code : ℕ) → IsSerial asked
      → IsTruthful NonePassed asked told before after code → IsTruthful Passed asked told before after code
  passed_by_any (Some (run policy trace)) told before after code other is = absurd other
  passed_by_any (Some (crew policy trace workers)) told before after code other is = absurd other
  passed_by_any asked told before after code other is = is

  -- so it is where the texts were read
  pub gated_by : (asked : Option Asked) (told : List ℕ → Told) (text : TextKind → List ℕ) (r : Result Answer Stop) → IsSerial asked → AreRead told text (asked_files asked)
      → IfOk r (Replies IsRunOf asked text) → IfOk r (IsGatedAnswer Passed asked told)
  gated_by asked told text (Ok a) other read is = replies text read (gated_reply asked text a other is)
  gated_by asked told text (Err why) other read is = is

  -- where a run is asked for, its answer to the texts that were read is the command's
  pub ran_by : (asked : Option Asked) (told : List ℕ → Told) (text : TextKind → List ℕ) (policy trace : List ℕ) (r : Result Answer Stop) → AreRead told text (asked_files asked)
      → ((a : Answer) → RepliesPlay (IsGatedRunOf Passed) (text kind.Policy) (text kind.Trace) a → Replies (IsGatedRunOf Passed) asked text a) → policy ≡ text kind.Policy → trace ≡ text kind.Trace
      → IfOk r (RepliesPlay (IsGatedRunOf Passed) policy trace) → IfOk r (IsGatedAnswer Passed asked told)
  ran_by asked told text policy trace (Ok a) read asks first second is =
      replies text read (asks a (subst (λ (p : List ℕ). RepliesPlay (IsGatedRunOf Passed) p (text kind.Trace) a) first (subst (λ (t : List ℕ). RepliesPlay (IsGatedRunOf Passed) policy t a) second is)))
  ran_by asked told text policy trace (Err why) read asks first second is = is

-- where the texts were read, the answer to them is the command's
pub answered_by : (Ran : Playing) (asked : Option Asked) (told : List ℕ → Told) (text : TextKind → List ℕ) (r : Result Answer Stop) → AreRead told text (asked_files asked)
    → IfOk r (Replies Ran asked text) → IfOk r (Answers Ran asked told)
answered_by Ran asked told text (Ok a) read is = replies text read is
answered_by Ran asked told text (Err why) read is = is

-- want of memory stops each command
pub memory_stops : (asked : Option Asked) (told : List ℕ → Told) (fault : Type 0) (r : Result Answer Stop) → IfErr r (λ why. why ≡ stop.Memory) → IfErr r (IsStop asked told fault)
memory_stops asked told fault (Ok a) is = is
memory_stops asked told fault (Err why) is = subst (IsStop asked told fault) (sym is) tt
