-- Which answer a command gives.
use Rattle.std.specs.Prelude.{◌≡◌, ◌⊎◌, ℕ, Bool, List, IsFalse, IsTrue, Ok, Option, Some, None}
use Rattle.sched_base.specs.declared.limits.TheConstants.{CHECK_BUDGET}
use Rattle.policy_tree.specs.Meaning.{Meaning, meaning_of}
use Rattle.job_trace.specs.declared.trace.Numbered.{Numbered}
use Rattle.policy_checker.specs.Playable.{is_playable}
use Rattle.policy_checker.specs.Verdicts.{IsVerdict, policy_of}
use Rattle.policy_answers.specs.declared.answer.CheckAnswer.{CheckAnswer}
use Rattle.policy_answers.specs.declared.answer.CheckAnswer.TheVariants as checked
use Rattle.policy_answers.specs.Bounds.{IsBoundOf}
use Rattle.policy_answers.specs.Rests.{IsRestOf}
use Rattle.wait_answers.specs.Waits.{IsWaitOf}
use Rattle.policy_answers.specs.Checks.{IsCheckOf, IsExplainOf}
use Rattle.policy_answers.specs.Verifying.{IsVerifyOf}
use Rattle.c_drafts.specs.Drafts.{draft_text}
use Rattle.cert_file.specs.Wrong.{Proves}
use Rattle.sched_io.specs.Told.{Told}
use Rattle.trace_maker.specs.Made.{made}
use Rattle.trace_printer.specs.Printed.{trace_text}
use Rattle.trace_play.specs.Plays as plays
use Rattle.trace_run.specs.Runs.{IsGatedRunOf, IsRunOf}
use Rattle.trace_simulation.specs.Simulations.{IsSimulationOf, IsWasteOf}
use Rattle.history_replay.specs.Judges.{IsMigrationOf, IsReplayOf, IsReportOf, IsWhyOf}
use Rattle.fair_policy.specs.Fair.{fair_meaning}
use Rattle.bench_play.specs.Bench.{IsBench}
use Rattle.command_words.specs.Command.{Asked, bench, bound, check, crew, draft, emit, explain, make, migrate, play}
use Rattle.command_words.specs.Command.{prove, replay, report, rest, run, simulate, tell_why, verify, waits, waste}
use Rattle.ipanema_cli.specs.Commands.{asked_files}
use Rattle.ipanema_cli.specs.Files.{AreRead, IsTooLongOf}
use Rattle.ipanema_cli.specs.PolicyAnswers.{Exporting, IsAccepted, IsHeader, accepts}
use Rattle.ipanema_cli.specs.Simulations.{IsPlayable, Simulating, lets_play}
use Rattle.ipanema_cli.specs.TraceAnswers.{Judging, Playing}
use Rattle.ipanema_cli.specs.declared.answers.Answer.{Answer}
use Rattle.ipanema_cli.specs.declared.answers.Answer.TheVariants as answer
use Rattle.ipanema_cli.specs.declared.texts.TextKind.{TextKind}
use Rattle.ipanema_cli.specs.declared.texts.TextKind.TheVariants as kind

-- What is answered is of this kind, and that holds of it.
abbrev pub IsGiven : {X : Type 0} → (X → Answer) → (X → Type 0) → Answer → Type 0
IsGiven {X} kind_of Is a = (x : X) × (a ≡ kind_of x) × Is x

-- what `check` answers, where it doesn't let the command go on
abbrev pub RepliesRefusal : (CheckAnswer → Bool) → (policy : List ℕ) → Answer → Type 0
RepliesRefusal lets policy a = IsGiven answer.Checked (λ c. IsCheckOf policy c × IsFalse (lets c)) a

-- the answer of a command that writes a text of an accepted policy
abbrev pub RepliesExport : Exporting → (policy : List ℕ) → Answer → Type 0
RepliesExport Is policy a = RepliesRefusal accepts policy a
    ⊎ IsGiven answer.Exported (λ given. (p : Meaning) × IsAccepted policy p × Is p given.items) a

-- the text is the header of the policy that was judged, which can be played
abbrev pub IsDraftBy : CheckAnswer → (text : List ℕ) → Type 0
IsDraftBy (checked.Judged v) text = IsTrue (is_playable v) × (text ≡ draft_text v)
IsDraftBy (checked.Unjudged why) text = ⊥

-- the answer of a command that writes that
abbrev pub RepliesDraft : (policy : List ℕ) → Answer → Type 0
RepliesDraft policy a = RepliesRefusal lets_play policy a
    ⊎ IsGiven answer.Exported (λ given. (c : CheckAnswer) × IsCheckOf policy c × IsDraftBy c given.items) a

-- the answer of one that plays a trace under an accepted policy
abbrev pub RepliesPlay : Playing → (policy trace : List ℕ) → Answer → Type 0
RepliesPlay Is policy trace a = RepliesRefusal accepts policy a
    ⊎ IsGiven answer.Played (λ outcome. (p : Meaning) × IsAccepted policy p × Is p trace outcome) a

-- the answer of one that simulates a trace under a policy that can be played
abbrev pub RepliesSimulation : Simulating → (policy trace : List ℕ) → Answer → Type 0
RepliesSimulation Is policy trace a = RepliesRefusal lets_play policy a
    ⊎ IsGiven answer.Simulated (λ outcome. (p : Meaning) × IsPlayable policy p × Is p trace outcome) a

-- the answer of one that judges a history under an accepted policy
abbrev pub RepliesJudging : Judging → (policy trace history : List ℕ) → Answer → Type 0
RepliesJudging Is policy trace history a = RepliesRefusal accepts policy a
    ⊎ IsGiven answer.Judged (λ outcome. (p : Meaning) × IsAccepted policy p × Is p trace history outcome) a

-- the text of the made trace
abbrev pub IsMade : (seed size : ℕ) → (text : List ℕ) → Type 0
IsMade seed size text = (trace : List Numbered) × (made seed size ≡ Ok trace) × (text ≡ trace_text trace)

-- the verdict on the policy `fair`, which isn't that it is accepted
abbrev pub IsFairVerdict : CheckAnswer → Type 0
IsFairVerdict (checked.Judged v) = IsVerdict fair_meaning CHECK_BUDGET v × IsFalse (accepts (checked.Judged v))
    × (meaning_of (policy_of v) ≡ fair_meaning)
IsFairVerdict (checked.Unjudged why) = ⊥

-- what the bench comes to, or the verdict on its policy, where that isn't accepted
abbrev pub RepliesBench : (seed size : ℕ) → Answer → Type 0
RepliesBench seed size a = IsGiven answer.Checked IsFairVerdict a ⊎ IsGiven answer.Benched (IsBench seed size) a

-- The answer of a command to the texts of its files. A run answers by `Ran`.
abbrev pub Replies : (Ran : Playing) → Option Asked → (TextKind → List ℕ) → Answer → Type 0
Replies Ran None text a = a ≡ answer.BadWords
Replies Ran (Some (check policy)) text a = IsGiven answer.Checked (IsCheckOf (text kind.Policy)) a
Replies Ran (Some (explain policy name)) text a = IsGiven answer.Explained (IsExplainOf (text kind.Policy) name) a
Replies Ran (Some (prove policy)) text a = RepliesExport Proves (text kind.Policy) a
Replies Ran (Some (emit policy)) text a = RepliesExport IsHeader (text kind.Policy) a
Replies Ran (Some (draft policy)) text a = RepliesDraft (text kind.Policy) a
Replies Ran (Some (bound policy)) text a = IsGiven answer.Bounded (IsBoundOf (text kind.Policy)) a
Replies Ran (Some (rest policy)) text a = IsGiven answer.Rested (IsRestOf (text kind.Policy)) a
Replies Ran (Some (waits policy)) text a = IsGiven answer.Waited (IsWaitOf (text kind.Policy)) a
Replies Ran (Some (verify policy certs)) text a =
    IsGiven answer.Verified (IsVerifyOf (text kind.Policy) (text kind.Certificates)) a
Replies Ran (Some (play policy trace)) text a = RepliesPlay plays.IsPlayOf (text kind.Policy) (text kind.Trace) a
Replies Ran (Some (run policy trace)) text a = RepliesPlay Ran (text kind.Policy) (text kind.Trace) a
Replies Ran (Some (crew policy trace workers)) text a = RepliesPlay Ran (text kind.Policy) (text kind.Trace) a
Replies Ran (Some (simulate policy trace)) text a =
    RepliesSimulation IsSimulationOf (text kind.Policy) (text kind.Trace) a
Replies Ran (Some (waste policy trace)) text a = RepliesSimulation IsWasteOf (text kind.Policy) (text kind.Trace) a
Replies Ran (Some (replay policy trace history)) text a =
    RepliesJudging IsReplayOf (text kind.Policy) (text kind.Trace) (text kind.History) a
Replies Ran (Some (report policy trace history)) text a =
    RepliesJudging IsReportOf (text kind.Policy) (text kind.Trace) (text kind.History) a
Replies Ran (Some (migrate policy trace history)) text a =
    RepliesJudging IsMigrationOf (text kind.Policy) (text kind.Trace) (text kind.History) a
Replies Ran (Some (tell_why policy trace history)) text a =
    RepliesJudging IsWhyOf (text kind.Policy) (text kind.Trace) (text kind.History) a
Replies Ran (Some (make seed size)) text a = IsGiven answer.Made (λ given. IsMade seed size given.items) a
Replies Ran (Some (bench seed size)) text a = RepliesBench seed size a

-- The answer to what is asked, with files of which this is told.
pub data Answers (Ran : Playing) (asked : Option Asked) (told : List ℕ → Told) (a : Answer) : Type 0 where
  -- the files may hold these texts, and that is the answer to them
  replies : (text : TextKind → List ℕ) → AreRead told text (asked_files asked) → Replies Ran asked text a →
      Answers Ran asked told a
  -- or one of them may be too long
  too_long : (which : TextKind) → a ≡ answer.TooLong which → IsTooLongOf which told (asked_files asked) →
      Answers Ran asked told a

abbrev pub IsAnswer : Option Asked → (List ℕ → Told) → Answer → Type 0
IsAnswer asked told a = Answers IsRunOf asked told a

-- and where it is a history that was run, each core of the plan passed the gate in each round of it
abbrev pub IsGatedAnswer : (Passed : ℕ → ℕ → Type 0) → Option Asked → (List ℕ → Told) → Answer → Type 0
IsGatedAnswer Passed asked told a = Answers (IsGatedRunOf Passed) asked told a
