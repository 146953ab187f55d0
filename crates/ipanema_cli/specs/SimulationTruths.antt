-- What `simulate` and `waste` say is true. Of waste it says nothing but what it tells: the policy may waste cores.
use Rattle.std.specs.Prelude.{◌≡◌, ◌⊎◌, ℕ, ◌≤◌, List, [], ◌∷◌, length, take, Option}
use Rattle.sched_io.specs.Puts.{joined}
use Rattle.sched_io.specs.Told.{Told}
use Rattle.sched_io.specs.Written.{Adds}
use Rattle.policy_eval.specs.Obligations.{MeetsHandlerObligations, MeetsObligations}
use Rattle.policy_tree.specs.Meaning.{Meaning}
use Rattle.policy_checker.specs.Laws.{HasUncertainHandler}
use Rattle.round_model.specs.declared.entry.Entry.{Entry}
use Rattle.round_model.specs.declared.plan.Plan.{Plan}
use Rattle.round_model.specs.OnePlace.{OnePlace}
use Rattle.serial_steps.specs.SerialEnds.{EndsWhole, IsFull, StopsFull}
use Rattle.serial_steps.specs.SerialRounds.{serial_rounds}
use Rattle.round_laws.specs.MainTheorem.{KeepsLaws}
use Rattle.job_trace.specs.declared.trace.Numbered.{Numbered}
use Rattle.job_trace.specs.Plans.{SpellsPlan}
use Rattle.job_trace.specs.TraceText.{SpellsTrace}
use Rattle.sched_history.specs.Spelling.{text_of_history}
use Rattle.sched_report.specs.Lines.{waste_lines}
use Rattle.sched_report.specs.Wastes.{IsWaste}
use Rattle.sched_report.specs.declared.rows.WasteReport.{WasteReport}
use Rattle.trace_play.specs.declared.fault.LineFault.{LineFault}
use Rattle.trace_play.specs.Plays as plays
use Rattle.trace_play.specs.Told as trace_faults
use Rattle.ipanema_cli.specs.Causes.{OneOf}
use Rattle.ipanema_cli.specs.CheckTruths.{AnswersFor, Holds, Refuses, Spells, TellsFault}
use Rattle.ipanema_cli.specs.Simulations.{IsPlayable}
use Rattle.ipanema_cli.specs.Texts.{MayRead}
use Rattle.ipanema_cli.specs.declared.texts.TextKind.TheVariants as kind

-- The files may hold a policy that can be played, and this text of a trace.
pub record MayHoldPlayable (policy trace : Told) (p : Meaning) (jobs : List ℕ) : Type 0 where
  pub text : List ℕ
  pub policy_read : MayRead kind.Policy policy text
  pub trace_read : MayRead kind.Trace trace jobs
  -- each system of each handler obligation has a right certificate
  pub playable : IsPlayable text p
  -- and so in each handler exactly one case holds, whatever the thread is
  pub handlers : MeetsHandlerObligations p

-- The files hold a policy, none of whose obligations has too many cases and each of whose handler obligations is met
-- and has no open system, and this text of a trace.
pub record DoHoldPlayable (policy trace : Told) (p : Meaning) (jobs : List ℕ) : Type 0 where
  pub spells : Spells policy p
  pub certain : HasUncertainHandler p → ⊥
  pub trace_held : Holds kind.Trace trace jobs

-- And the trace means this plan under the policy.
pub record DoSimulate (policy trace : Told) (p : Meaning) (plan : Plan) : Type 0 where
  pub jobs : List ℕ
  pub held : DoHoldPlayable policy trace p jobs
  pub lines : List Numbered
  pub spells : SpellsTrace jobs lines
  pub means : SpellsPlan p lines plan

-- Serial play of the plan that the trace means ended so, under a policy that can be played, and what is said of its
-- history is written.
pub record WritesSimulated (Ends : Meaning → Plan → List Entry → Type 0)
    (Says : Meaning → Plan → List Entry → List ℕ → Type 0) (policy trace : Told) (before after : Option (List ℕ)) :
    Type 0 where
  pub p : Meaning
  pub jobs : List ℕ
  pub may : MayHoldPlayable policy trace p jobs
  pub plan : Plan
  pub means : plays.MeansPlan p jobs plan
  pub history : List Entry
  pub ends : Ends p plan history
  -- after each of its entries every thread stands where the history says
  pub one_place : (k : ℕ) → k ≤ length history → OnePlace p plan (take k history)
  -- and where the policy meets its obligations, the history keeps the other laws too
  pub keeps : MeetsObligations p → KeepsLaws p plan history
  pub bytes : List ℕ
  pub says : Says p plan history bytes
  pub written : Adds bytes before after

-- The lines of `check` are written, of a policy that can't be played: some handler obligation of it isn't met, or has
-- a system that bounded elimination leaves open.
pub record WritesUnplayable (policy : Told) (before after : Option (List ℕ)) (code : ℕ) : Type 0 where
  pub answers : AnswersFor policy before after code
  pub uncertain : HasUncertainHandler answers.p

-- The fault of the trace is written, under a policy that can be played.
pub record BadSimulation (policy trace : Told) (before after : Option (List ℕ)) : Type 0 where
  pub p : Meaning
  pub jobs : List ℕ
  pub may : MayHoldPlayable policy trace p jobs
  pub fault : LineFault
  pub has : plays.HasFault p jobs fault
  pub written : Adds (trace_faults.fault_line fault) before after

-- When each status must come, if the outside lets it be.
pub record MustSimulate (policy trace : Told) (code : ℕ) : Type 0 where
  -- what can be played is: to the end where every round fits, and only there
  pub reaches_end : (p : Meaning) (plan : Plan) → DoSimulate policy trace p plan →
      ((k : ℕ) → IsFull plan (serial_rounds p plan k) → ⊥) → OneOf (0 ∷ 4 ∷ 5 ∷ 6 ∷ []) code
  pub stops_full : (p : Meaning) (plan : Plan) (k : ℕ) → DoSimulate policy trace p plan →
      IsFull plan (serial_rounds p plan k) → OneOf (4 ∷ 5 ∷ 6 ∷ 8 ∷ []) code
  -- a trace that means no plan gets its fault
  pub faulty : (p : Meaning) (jobs : List ℕ) (fault : LineFault) → DoHoldPlayable policy trace p jobs →
      plays.HasFault p jobs fault → OneOf (2 ∷ 4 ∷ 5 ∷ 6 ∷ []) code
  -- a policy that doesn't meet its handler obligations gets a status that `check` has for such ones
  pub refuses : (p : Meaning) (jobs : List ℕ) → Spells policy p → Holds kind.Trace trace jobs →
      (MeetsHandlerObligations p → ⊥) → OneOf (1 ∷ 3 ∷ 4 ∷ 5 ∷ 6 ∷ []) code
  -- and a text that isn't judged the one for it
  pub unjudged : (jobs : List ℕ) → Holds kind.Trace trace jobs → Refuses policy code

-- What a command that simulates says of files of which this is told is true. Of the history that it plays it says this:
-- of the serial one, which is whole, or of the complete rounds of it before the first that might not fit the limit.
pub record SimulatesTruly (Says : Meaning → Plan → List Entry → List ℕ → Type 0) (policy trace : Told)
    (before after : Option (List ℕ)) (code : ℕ) : Type 0 where
  pub whole : code ≡ 0 → WritesSimulated EndsWhole Says policy trace before after
  pub full : code ≡ 8 → WritesSimulated StopsFull Says policy trace before after
  pub must : MustSimulate policy trace code
  pub lines : OneOf (1 ∷ 3 ∷ []) code → WritesUnplayable policy before after code
  pub bad_text : code ≡ 2 → TellsFault policy before after ⊎ BadSimulation policy trace before after

-- `simulate` says the text of the history.
abbrev pub SaysHistory : Meaning → Plan → List Entry → List ℕ → Type 0
SaysHistory p plan history bytes = bytes ≡ text_of_history plan.cores history

-- `waste` says what the history wasted and why its steals failed, where an entry explains that: its rows, one for each
-- round, longest still stretch and failed steal, and its totals.
abbrev pub SaysWaste : Meaning → Plan → List Entry → List ℕ → Type 0
SaysWaste p plan history bytes =
    (report : WasteReport) × IsWaste p plan history report × (bytes ≡ joined (waste_lines report))
