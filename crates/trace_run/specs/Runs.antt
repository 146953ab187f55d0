-- What a run of a trace's text comes to, where all cores play side by side.
use Rattle.std.specs.Prelude.{◌≡◌, ℕ, ◌≤◌, List, [], length}
use Rattle.sched_base.specs.declared.limits.TheConstants.{MAX_WORKERS}
use Rattle.policy_tree.specs.Meaning.{Meaning}
use Rattle.round_model.specs.declared.entry.Entry.{Entry}
use Rattle.round_model.specs.declared.plan.Plan.{Plan}
use Rattle.round_model.specs.Fits.{Fits}
use Rattle.round_model.specs.Legal.{IsComplete, Legal, Whole, rounds_begun}
use Rattle.round_model.specs.Limits.{IsWithinLimits}
use Rattle.serial_steps.specs.declared.serial.Played.{Played}
use Rattle.serial_steps.specs.declared.serial.Played.TheVariants as played
use Rattle.serial_steps.specs.SerialEnds.{IsFull}
use Rattle.parallel_play.specs.Runs.{AllPassed, HadRoom}
use Rattle.parallel_play.specs.declared.fault.RunFault.{RunFault}
use Rattle.parallel_play.specs.declared.fault.RunFault.TheVariants as fault
use Rattle.crew_play.specs.declared.fault.CrewFault.{CrewFault}
use Rattle.crew_play.specs.declared.fault.CrewFault.TheVariants as crew
use Rattle.job_trace.specs.declared.trace.Numbered.{Numbered}
use Rattle.job_trace.specs.Plans.{SpellsPlan}
use Rattle.job_trace.specs.TraceText.{SpellsTrace}
use Rattle.trace_play.specs.declared.answer.PlayAnswer.{PlayAnswer}
use Rattle.trace_play.specs.declared.answer.PlayAnswer.TheVariants as answer
use Rattle.trace_play.specs.declared.cores.PlayedCores.{PlayedCores}
use Rattle.trace_play.specs.declared.cores.PlayedCores.TheVariants as cores
use Rattle.trace_run.specs.declared.players.Players.{Players}
use Rattle.trace_run.specs.declared.players.Players.TheVariants as players
use Rattle.trace_play.specs.Plays.{HasFault, MeansPlan, closed_of, history_of, played_by}

-- a crew has at least one worker, and no more than there may be. Threads of their own need no bound
abbrev pub HasPlayers : Players → Type 0
HasPlayers players.ThreadEach = Unit {0}
HasPlayers (players.Crew workers) = (1 ≤ workers) × (workers ≤ MAX_WORKERS)

-- the run came to its end: the history is whole, and each of its rounds had room
pub record RunEnds (p : Meaning) (plan : Plan) (history : List Entry) : Type 0 where
  pub whole : Whole p plan history
  pub few : length history ≤ plan.limit
  pub roomy : HadRoom plan history

-- the run stopped before the first round that might not fit: behind complete rounds of a legal history, which had room,
-- one is due that may have more entries than the plan's limit still allows
pub record RunStops (p : Meaning) (plan : Plan) (history : List Entry) : Type 0 where
  pub legal : Legal p plan history
  pub complete : IsComplete plan history
  pub full : IsFull plan history
  pub few : length history ≤ plan.limit
  pub roomy : HadRoom plan history
  -- where the first round might not fit, nothing was played
  pub at_once : IsFull plan [] → history ≡ []

-- what a run comes to
abbrev pub IsRun : Meaning → Plan → Played → Type 0
IsRun p plan (played.Whole history) = RunEnds p plan history
IsRun p plan (played.Full history) = RunStops p plan history

-- the fault of threads is also that of a crew
abbrev pub IsSameFault : RunFault → CrewFault → Type 0
IsSameFault (fault.HistoryFull closed) why = why ≡ crew.HistoryFull closed

-- the cores that are left where no whole history was made
abbrev pub Left : CrewFault → PlayedCores → Type 0
Left (crew.HistoryFull closed) left = left ≡ cores.Full closed
Left (crew.Memory table seat) left = ⊥

-- the text spells a trace, whose plan fits the policy, and that is what a run of the plan came to
pub record RunsText (p : Meaning) (text : List ℕ) (play : Played) : Type 0 where
  pub trace : List Numbered
  pub spells : SpellsTrace text trace
  pub plan : Plan
  pub means : SpellsPlan p trace plan
  pub fits : Fits p plan
  pub limits : IsWithinLimits plan
  pub ran : IsRun p plan play

-- so it is with what these cores ran, and they are the plan's
pub record RunsCores (p : Meaning) (text : List ℕ) (left : PlayedCores) : Type 0 where
  pub runs : RunsText p text (played_by left)
  pub count : length (closed_of left).cores ≡ runs.plan.cores

-- the answer is one that the text may get under the policy
abbrev pub IsRunOf : Meaning → List ℕ → PlayAnswer → Type 0
IsRunOf p text (answer.Broken fault) = HasFault p text fault
IsRunOf p text (answer.Played left) = RunsCores p text left

-- each core of the plan passed the gate in each round of the history that was run
abbrev pub HavePassed : (Passed : ℕ → ℕ → Type 0) → Plan → Played → Type 0
HavePassed Passed plan play = AllPassed Passed plan (rounds_begun (history_of play))

-- so did those of the plan that the text means, where it means one
abbrev pub HavePassedFor : (Passed : ℕ → ℕ → Type 0) → Meaning → List ℕ → PlayAnswer → Type 0
HavePassedFor Passed p text (answer.Broken fault) = Unit {0}
HavePassedFor Passed p text (answer.Played left) = (plan : Plan) × MeansPlan p text plan
    × HavePassed Passed plan (played_by left)

-- so a run whose cores passed the gate ends
abbrev pub GatedEnds : (Passed : ℕ → ℕ → Type 0) → Meaning → Plan → List Entry → Type 0
GatedEnds Passed p plan history = RunEnds p plan history × AllPassed Passed plan (rounds_begun history)

-- and so it stops
abbrev pub GatedStops : (Passed : ℕ → ℕ → Type 0) → Meaning → Plan → List Entry → Type 0
GatedStops Passed p plan history = RunStops p plan history × AllPassed Passed plan (rounds_begun history)

-- the answer is one that the text may get, and the cores passed the gate
abbrev pub IsGatedRunOf : (Passed : ℕ → ℕ → Type 0) → Meaning → List ℕ → PlayAnswer → Type 0
IsGatedRunOf Passed p text play = IsRunOf p text play × HavePassedFor Passed p text play
