-- What `play` and `run` say is true.
use Rattle.std.specs.Prelude.{◌≡◌, ◌≢◌, ◌⊎◌, ℕ, List, [], ◌∷◌, Option}
use Rattle.sched_io.specs.Told.{Told}
use Rattle.sched_io.specs.Written.{Adds}
use Rattle.policy_eval.specs.Obligations.{MeetsObligations}
use Rattle.policy_tree.specs.Meaning.{Meaning}
use Rattle.round_model.specs.declared.entry.Entry.{Entry}
use Rattle.round_model.specs.declared.plan.Plan.{Plan}
use Rattle.round_model.specs.Fits.{Fits}
use Rattle.round_model.specs.Legal.{Whole}
use Rattle.round_model.specs.Limits.{IsWithinLimits}
use Rattle.serial_steps.specs.SerialRounds.{serial_rounds}
use Rattle.round_laws.specs.MainTheorem.{KeepsLaws}
use Rattle.job_trace.specs.declared.trace.Numbered.{Numbered}
use Rattle.job_trace.specs.Plans.{SpellsPlan}
use Rattle.job_trace.specs.TraceText.{SpellsTrace}
use Rattle.sched_history.specs.Spelling.{text_of_history}
use Rattle.serial_steps.specs.Room.{HasRoomForRounds}
use Rattle.serial_steps.specs.SerialEnds.{EndsWhole, IsFull, StopsFull}
use Rattle.trace_play.specs.declared.fault.LineFault.{LineFault}
use Rattle.parallel_play.specs.Runs.{HadRoom}
use Rattle.trace_run.specs.Runs.{GatedEnds, GatedStops}
use Rattle.trace_play.specs.Plays as plays
use Rattle.trace_play.specs.Told as trace_faults
use Rattle.ipanema_cli.specs.PolicyAnswers.{IsAccepted}
use Rattle.ipanema_cli.specs.Causes.{OneOf}
use Rattle.ipanema_cli.specs.Texts.{MayRead}
use Rattle.ipanema_cli.specs.declared.texts.TextKind.TheVariants as kind
use Rattle.ipanema_cli.specs.CheckTruths.{AnswersFor, Holds, Refuses, SomeIsOpen, Spells, TellsFault}

-- The files may hold an accepted policy and a trace that means this plan under it, which is within the limits.
pub record MayPlay (policy trace : Told) (p : Meaning) (plan : Plan) : Type 0 where
  pub text : List ℕ
  pub jobs : List ℕ
  pub policy_read : MayRead kind.Policy policy text
  pub trace_read : MayRead kind.Trace trace jobs
  pub accepted : IsAccepted text p
  pub meets : MeetsObligations p
  pub lines : List Numbered
  pub spells : SpellsTrace jobs lines
  pub means : SpellsPlan p lines plan
  pub fits : Fits p plan
  pub limits : IsWithinLimits plan

-- The files hold a policy that meets its obligations, none with too many cases, and a trace.
pub record DoHold (policy trace : Told) (p : Meaning) (jobs : List ℕ) : Type 0 where
  pub spells : Spells policy p
  pub meets : MeetsObligations p
  pub trace_held : Holds kind.Trace trace jobs

-- And the trace means this plan under the policy.
pub record DoPlay (policy trace : Told) (p : Meaning) (plan : Plan) : Type 0 where
  pub jobs : List ℕ
  pub held : DoHold policy trace p jobs
  pub lines : List Numbered
  pub spells : SpellsTrace jobs lines
  pub means : SpellsPlan p lines plan

-- The fault of the trace is written, under an accepted policy.
pub record BadTrace (policy trace : Told) (before after : Option (List ℕ)) : Type 0 where
  pub text : List ℕ
  pub jobs : List ℕ
  pub policy_read : MayRead kind.Policy policy text
  pub trace_read : MayRead kind.Trace trace jobs
  pub p : Meaning
  pub accepted : IsAccepted text p
  pub fault : LineFault
  pub has : plays.HasFault p jobs fault
  pub written : Adds (trace_faults.fault_line fault) before after

-- When each status of a command that plays a trace must come that isn't of its play, if the outside lets it be. A
-- policy with an open system may be left undecided.
pub record MustAnswer (policy trace : Told) (code : ℕ) : Type 0 where
  -- a trace that can't be played gets its fault
  pub faulty : (p : Meaning) (jobs : List ℕ) (fault : LineFault) → DoHold policy trace p jobs →
      plays.HasFault p jobs fault → OneOf (2 ∷ 3 ∷ 4 ∷ 5 ∷ 6 ∷ []) code
  -- no policy is left undecided of which no system is open
  pub decides : (p : Meaning) (jobs : List ℕ) → Spells policy p → Holds kind.Trace trace jobs →
      (SomeIsOpen p → ⊥) → code ≢ 3
  -- a policy that doesn't meet its obligations gets a status that `check` has for such ones
  pub refuses : (p : Meaning) (jobs : List ℕ) → Spells policy p → Holds kind.Trace trace jobs →
      (MeetsObligations p → ⊥) → OneOf (1 ∷ 3 ∷ 4 ∷ 5 ∷ 6 ∷ []) code
  -- and a text that isn't judged the one for it
  pub unjudged : (jobs : List ℕ) → Holds kind.Trace trace jobs → Refuses policy code

-- When each status of `play` must come, if the outside lets it be.
pub record MustPlay (policy trace : Told) (code : ℕ) : Type 0 where
  -- what can be played is: to the end where every round fits, and only there
  pub reaches_end : (p : Meaning) (plan : Plan) → DoPlay policy trace p plan →
      ((k : ℕ) → IsFull plan (serial_rounds p plan k) → ⊥) → OneOf (0 ∷ 3 ∷ 4 ∷ 5 ∷ 6 ∷ []) code
  pub stops_full : (p : Meaning) (plan : Plan) (k : ℕ) → DoPlay policy trace p plan →
      IsFull plan (serial_rounds p plan k) → OneOf (3 ∷ 4 ∷ 5 ∷ 6 ∷ 8 ∷ []) code
  pub others : MustAnswer policy trace code

-- When each status of `run` must come, if the outside lets it be and the run comes to an end.
pub record MustRun (policy trace : Told) (code : ℕ) : Type 0 where
  -- what can be played is, to the end or to a round that might not fit
  pub ends : (p : Meaning) (plan : Plan) → DoPlay policy trace p plan → OneOf (0 ∷ 3 ∷ 4 ∷ 5 ∷ 6 ∷ 8 ∷ []) code
  -- and to the end where the limit has room for all rounds
  pub reaches_end : (p : Meaning) (plan : Plan) → DoPlay policy trace p plan → HasRoomForRounds plan →
      OneOf (0 ∷ 3 ∷ 4 ∷ 5 ∷ 6 ∷ []) code
  -- but not to the end where no whole history has room for each of its rounds
  pub stops_full : (p : Meaning) (plan : Plan) → DoPlay policy trace p plan →
      ((history : List Entry) → Whole p plan history → HadRoom plan history → ⊥) →
      OneOf (3 ∷ 4 ∷ 5 ∷ 6 ∷ 8 ∷ []) code
  -- and so not where the first round might not fit
  pub stops_at_once : (p : Meaning) (plan : Plan) → DoPlay policy trace p plan → IsFull plan [] →
      OneOf (3 ∷ 4 ∷ 5 ∷ 6 ∷ 8 ∷ []) code
  pub others : MustAnswer policy trace code

-- The text of a history was written with which play ended so, of an accepted policy and a trace that means a plan. It
-- keeps the laws of every interleaving.
abbrev pub WritesPlayed : (Ends : Meaning → Plan → List Entry → Type 0) (policy trace : Told)
    (before after : Option (List ℕ)) → Type 0
WritesPlayed Ends policy trace before after = (p : Meaning) × (plan : Plan) × (history : List Entry)
    × MayPlay policy trace p plan × Ends p plan history × KeepsLaws p plan history
    × Adds (text_of_history plan.cores history) before after

-- What a command that plays a trace says is true, whose play may come to its end so, and may stop full so.
pub record TracesTruly (Ends Stops : Meaning → Plan → List Entry → Type 0) (Must : ℕ → Type 0) (policy trace : Told)
    (before after : Option (List ℕ)) (code : ℕ) : Type 0 where
  pub whole : code ≡ 0 → WritesPlayed Ends policy trace before after
  pub full : code ≡ 8 → WritesPlayed Stops policy trace before after
  pub must : Must code
  -- a policy that isn't accepted gets the lines of `check`
  pub lines : OneOf (1 ∷ 3 ∷ []) code → AnswersFor policy before after code
  pub bad_text : code ≡ 2 → TellsFault policy before after ⊎ BadTrace policy trace before after

-- What `play` says of files of which this is told is true: what is written is the serial history, which is whole, or
-- the complete rounds of it before the first that might not fit the limit.
abbrev pub PlaysTruly : (policy trace : Told) (before after : Option (List ℕ)) (code : ℕ) → Type 0
PlaysTruly policy trace before after code =
    TracesTruly EndsWhole StopsFull (MustPlay policy trace) policy trace before after code

-- What `run` says is true: what is written is a whole history, or complete rounds of a legal one behind which a round
-- is due that might not fit the limit. No round was begun that might not, and each core passed the gate in each round.
abbrev pub RunsTruly : (Passed : ℕ → ℕ → Type 0) (policy trace : Told) (before after : Option (List ℕ)) (code : ℕ) →
    Type 0
RunsTruly Passed policy trace before after code =
    TracesTruly (GatedEnds Passed) (GatedStops Passed) (MustRun policy trace) policy trace before after code
