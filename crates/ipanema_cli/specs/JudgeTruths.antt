-- What commands that judge a history say is true.
use Rattle.std.specs.Prelude.{◌≡◌, ◌≢◌, ◌⊎◌, ℕ, List, [], ◌∷◌, Option, length}
use Rattle.sched_io.specs.Puts.{joined}
use Rattle.sched_io.specs.Told.{Told}
use Rattle.sched_io.specs.Written.{Adds}
use Rattle.policy_eval.specs.Obligations.{MeetsObligations}
use Rattle.policy_tree.specs.Meaning.{Meaning}
use Rattle.round_model.specs.declared.entry.Entry.{Entry}
use Rattle.round_model.specs.declared.plan.Plan.{Plan}
use Rattle.round_model.specs.Legal.{Whole}
use Rattle.round_laws.specs.MainTheorem.{KeepsLaws}
use Rattle.trace_play.specs.declared.fault.LineFault.{LineFault}
use Rattle.sched_report.specs.declared.rows.FullReport.{FullReport}
use Rattle.sched_report.specs.Lines.{report_lines}
use Rattle.sched_history.specs.Spelling.{text_of_history}
use Rattle.history_reader.specs.Reading.{IsFirstBadLine, SpellsHistory}
use Rattle.history_judge.specs.Judgement.{IsFirstIllegal, IsTooShort}
use Rattle.history_reasons.specs.declared.explaining.Explanation.{Explanation}
use Rattle.history_reasons.specs.Explanations.{IsExplanation}
use Rattle.history_replay.specs.declared.refusal.HistoryRefusal.TheVariants as refusal
use Rattle.history_replay.specs.Judges.{Gives, Tells}
use Rattle.history_replay.specs.Lines.{explanation_lines, refusal_line, whole_line}
use Rattle.trace_play.specs.Plays as plays
use Rattle.ipanema_cli.specs.PolicyAnswers.{IsAccepted}
use Rattle.ipanema_cli.specs.Causes.{OneOf}
use Rattle.ipanema_cli.specs.Texts.{MayRead}
use Rattle.ipanema_cli.specs.declared.texts.TextKind.TheVariants as kind
use Rattle.ipanema_cli.specs.CheckTruths.{AnswersFor, Holds, Refuses, SomeIsOpen, Spells, TellsFault}
use Rattle.ipanema_cli.specs.TraceTruths.{BadTrace}

-- The files may hold an accepted policy, a trace that means this plan under it, and the text of this history.
pub record MayJudge (policy trace history : Told) (p : Meaning) (plan : Plan) (entries : List Entry) : Type 0 where
  pub text : List ℕ
  pub jobs : List ℕ
  pub lines : List ℕ
  pub policy_read : MayRead kind.Policy policy text
  pub trace_read : MayRead kind.Trace trace jobs
  pub history_read : MayRead kind.History history lines
  pub accepted : IsAccepted text p
  pub meets : MeetsObligations p
  pub gives : Gives p jobs lines plan entries

-- The files hold a policy that meets its obligations, none with too many cases, and texts of a trace and a history.
pub record DoHoldAll (policy trace history : Told) (p : Meaning) (jobs lines : List ℕ) : Type 0 where
  pub spells : Spells policy p
  pub meets : MeetsObligations p
  pub trace_held : Holds kind.Trace trace jobs
  pub history_held : Holds kind.History history lines

-- What a command says of a history that it judges: of a whole one, and of another.
pub record Saying : Type 1 where
  pub of_whole : Meaning → Plan → List Entry → List ℕ → Type 0
  pub of_other : Meaning → Plan → List Entry → List ℕ → Type 0

-- The history is whole, and what is said of it is written.
pub record WritesOfWhole (Says : Saying) (policy trace history : Told)
    (before after : Option (List ℕ)) : Type 0 where
  pub p : Meaning
  pub plan : Plan
  pub entries : List Entry
  pub may : MayJudge policy trace history p plan entries
  pub whole : Whole p plan entries
  -- it keeps the laws of every interleaving
  pub keeps : KeepsLaws p plan entries
  pub bytes : List ℕ
  pub says : Says.of_whole p plan entries bytes
  pub written : Adds bytes before after

-- The history isn't whole, and what is said of it is written.
pub record WritesOfOther (Says : Saying) (policy trace history : Told) (before after : Option (List ℕ)) : Type 0 where
  pub p : Meaning
  pub plan : Plan
  pub entries : List Entry
  pub may : MayJudge policy trace history p plan entries
  pub unfinished : Whole p plan entries → ⊥
  pub bytes : List ℕ
  pub says : Says.of_other p plan entries bytes
  pub written : Adds bytes before after

-- The first bad line of the history's text is written, under an accepted policy and a trace that means a plan.
pub record BadHistory (policy trace history : Told) (before after : Option (List ℕ)) : Type 0 where
  pub text : List ℕ
  pub jobs : List ℕ
  pub lines : List ℕ
  pub policy_read : MayRead kind.Policy policy text
  pub trace_read : MayRead kind.Trace trace jobs
  pub history_read : MayRead kind.History history lines
  pub p : Meaning
  pub accepted : IsAccepted text p
  pub plan : Plan
  pub means : plays.MeansPlan p jobs plan
  pub line : ℕ
  pub bad : IsFirstBadLine plan.cores lines line
  pub written : Adds (refusal_line (refusal.BadLine line)) before after

-- When each status of a command that judges a history must come, if the outside lets it be. A policy with an open
-- system may be left undecided.
pub record MustJudge (policy trace history : Told) (code : ℕ) : Type 0 where
  -- a whole history is found to be such, and another one not
  pub whole : (p : Meaning) (jobs lines : List ℕ) (plan : Plan) (entries : List Entry) →
      DoHoldAll policy trace history p jobs lines → Gives p jobs lines plan entries → Whole p plan entries →
      OneOf (0 ∷ 3 ∷ 4 ∷ 5 ∷ 6 ∷ []) code
  pub not_whole : (p : Meaning) (jobs lines : List ℕ) (plan : Plan) (entries : List Entry) →
      DoHoldAll policy trace history p jobs lines → Gives p jobs lines plan entries → (Whole p plan entries → ⊥) →
      OneOf (3 ∷ 4 ∷ 5 ∷ 6 ∷ 9 ∷ []) code
  -- a trace that means no plan gets its fault, and so does a text that is no history
  pub faulty : (p : Meaning) (jobs lines : List ℕ) (fault : LineFault) → DoHoldAll policy trace history p jobs lines →
      plays.HasFault p jobs fault → OneOf (2 ∷ 3 ∷ 4 ∷ 5 ∷ 6 ∷ []) code
  pub bad_line : (p : Meaning) (jobs lines : List ℕ) (plan : Plan) (line : ℕ) →
      DoHoldAll policy trace history p jobs lines → plays.MeansPlan p jobs plan →
      IsFirstBadLine plan.cores lines line → OneOf (2 ∷ 3 ∷ 4 ∷ 5 ∷ 6 ∷ []) code
  -- no policy is left undecided of which no system is open
  pub decides : (p : Meaning) (jobs lines : List ℕ) → Spells policy p → Holds kind.Trace trace jobs →
      Holds kind.History history lines → (SomeIsOpen p → ⊥) → code ≢ 3
  -- a policy that doesn't meet its obligations gets a status that `check` has for such ones
  pub refuses : (p : Meaning) (jobs lines : List ℕ) → Spells policy p → Holds kind.Trace trace jobs →
      Holds kind.History history lines → (MeetsObligations p → ⊥) → OneOf (1 ∷ 3 ∷ 4 ∷ 5 ∷ 6 ∷ []) code
  -- and a text that isn't judged the one for it
  pub unjudged : (jobs lines : List ℕ) → Holds kind.Trace trace jobs → Holds kind.History history lines →
      Refuses policy code

-- What a command that judges a history says is true. It says this.
pub record JudgesTruly (Says : Saying) (policy trace history : Told) (before after : Option (List ℕ)) (code : ℕ) : Type 0 where
  pub whole : code ≡ 0 → WritesOfWhole Says policy trace history before after
  pub not_whole : code ≡ 9 → WritesOfOther Says policy trace history before after
  pub must : MustJudge policy trace history code
  -- a policy that isn't accepted gets the lines of `check`
  pub lines : OneOf (1 ∷ 3 ∷ []) code → AnswersFor policy before after code
  pub bad_text : code ≡ 2 → TellsFault policy before after ⊎ (BadTrace policy trace before after
      ⊎ BadHistory policy trace history before after)

-- Of one that isn't whole the first entry is said that isn't legal, or that all are and it stops too soon.
pub data SaysNotWhole (p : Meaning) (plan : Plan) (entries : List Entry) (bytes : List ℕ) : Type 0 where
  illegal : (position : ℕ) → IsFirstIllegal p plan entries position →
      bytes ≡ refusal_line (refusal.Illegal position) → SaysNotWhole p plan entries bytes
  short : (count : ℕ) → IsTooShort p plan entries count →
      bytes ≡ refusal_line (refusal.Short count) → SaysNotWhole p plan entries bytes

-- `why` says its explanation: the rule that the first illegal entry breaks, and the entries that may come.
abbrev pub SaysReasons : Meaning → Plan → List Entry → List ℕ → Type 0
SaysReasons p plan entries bytes =
    (explanation : Explanation) × IsExplanation p plan entries explanation
    × (bytes ≡ joined (explanation_lines explanation))

-- Of a whole history `replay` and `why` say how many entries it has.
abbrev pub SaysCount : Meaning → Plan → List Entry → List ℕ → Type 0
SaysCount p plan entries bytes = bytes ≡ whole_line (length entries)

-- `report` says what the history wasted and why its steals failed: its rows, one for each round, longest still stretch
-- and failed steal, and its totals. Twice the bad rounds of a stretch are at most its spread.
abbrev pub SaysRows : Meaning → Plan → List Entry → List ℕ → Type 0
SaysRows p plan entries bytes =
    (report : FullReport) × Tells p plan entries report × (bytes ≡ joined (report_lines report))

-- `migrate` says the history's text of the second format, which spells the same history.
abbrev pub SaysText : Meaning → Plan → List Entry → List ℕ → Type 0
SaysText p plan entries bytes =
    (bytes ≡ text_of_history plan.cores entries) × SpellsHistory plan.cores bytes entries

-- What each of these commands says.
abbrev pub saying : (Meaning → Plan → List Entry → List ℕ → Type 0) → Saying
saying Says = record { of_whole = Says; of_other = λ p plan entries bytes. SaysNotWhole p plan entries bytes }

abbrev pub SaysWhole : Saying
SaysWhole = saying SaysCount

abbrev pub SaysReport : Saying
SaysReport = saying SaysRows

abbrev pub SaysMigrated : Saying
SaysMigrated = saying SaysText

abbrev pub SaysWhy : Saying
SaysWhy = record { of_whole = SaysCount; of_other = SaysReasons }
