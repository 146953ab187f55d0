-- How far serial play over running cores has come.
use Rattle.std.specs.Prelude.{◌≡◌, ℕ, ◌+◌, ◌<◌, ◌≤◌, List, [], ◌∷◌, ◌++◌, length, fold, All, IfSome, Option, Some, None}
use Rattle.std.specs.Prelude.{vec_capacity}
use Rattle.sched_base.specs.declared.limits.TheConstants.{MAX_THREADS}
use Rattle.policy_tree.specs.Meaning.{Meaning}
use Rattle.round_model.specs.declared.entry.Entry.{Entry}
use Rattle.round_model.specs.declared.entry.Entry.TheVariants as entry
use Rattle.round_model.specs.declared.plan.Plan.{Plan}
use Rattle.round_model.specs.declared.plan.Planned.{Planned}
use Rattle.round_model.specs.declared.state.Blocked.{Blocked}
use Rattle.round_model.specs.Choices.{choice_of}
use Rattle.round_model.specs.Outcomes.{values_at}
use Rattle.round_model.specs.Legal.{Legal, LegalNext, has_ended, rounds_begun}
use Rattle.round_model.specs.Owed.{owed_total}
use Rattle.round_model.specs.Reads.{ReadsFit, round_start}
use Rattle.round_model.specs.Scenes.{has_attempted, has_worked, own_entries, scene_of}
use Rattle.round_judge.specs.Past.{Awaits, is_flagged}
use Rattle.serial_steps.specs.TurnSteps.{TurnStep, attempting, entering, late_step, looking, turn_step_of, waking}
use Rattle.serial_steps.specs.TurnSteps.{working}
use Rattle.serial_steps.specs.Serial.{SerialState, step_of}
use Rattle.serial_steps.specs.SerialEnds.{RoundFits}
use Rattle.core_moves.specs.Cores.{AreCoresOf}
use Rattle.core_worker.specs.declared.run.Run.{Run}
use Rattle.core_worker.specs.declared.turn.Look.{Look}
use Rattle.core_worker.specs.declared.turn.Turns.{Turns}
use Rattle.core_worker.specs.Turns.{look_of}

-- the look was made in the open round, and the choice is the one that follows from it
pub record IsLookOf (p : Meaning) (plan : Plan) (s : SerialState) (c : ℕ) (look : Look) : Type 0 where
  pub kept : s.looks c ≡ Some look.reads
  pub fit : ReadsFit plan.cores (round_start s.history) (length s.history) look.reads
  pub choice : look.choice ≡ choice_of p plan.cores (values_at p plan s.history look.reads) c
  pub there : IfSome look.choice (λ v. v < plan.cores)

-- the look that the core keeps is that of the moment
abbrev pub KeepsLook : Meaning → Plan → SerialState → ℕ → Option Look → Type 0
KeepsLook p plan s c None = s.looks c ≡ None
KeepsLook p plan s c (Some look) = IsLookOf p plan s c look

-- how far the core has come in its turn of the open round
pub record IsTurnOf (p : Meaning) (plan : Plan) (s : SerialState) (c : ℕ) (turns : Turns) : Type 0 where
  pub worked : is_flagged turns.worked c ≡ has_worked (own_entries s.history c)
  pub attempted : is_flagged turns.attempted c ≡ has_attempted (own_entries s.history c)
  pub look : KeepsLook p plan s c (look_of turns c)

-- the run is at that moment of serial play
pub record IsRunOf (p : Meaning) (plan : Plan) (run : Run) (s : SerialState) : Type 0 where
  pub cores : AreCoresOf p plan s.history run.cores
  pub legal : Legal p plan s.history
  pub within : length s.history ≤ plan.limit
  pub round : run.round ≡ rounds_begun s.history
  pub turns : (c : ℕ) → c < plan.cores → IsTurnOf p plan s c run.turns
  pub arrivals : 0 < run.round → Awaits plan s.history run.arrivals.items
  pub places : length plan.threads ≤ vec_capacity run.arrivals
  pub ended : All (λ (t : Planned). is_flagged run.ended t.id ≡ has_ended s.history t) plan.threads
  pub flags : length run.ended ≡ MAX_THREADS + 1

-- and a round is open, of which all that cores owe still fits the plan's limit
pub record IsMoment (p : Meaning) (plan : Plan) (run : Run) (s : SerialState) : Type 0 where
  pub at : IsRunOf p plan run s
  pub begun : 0 < rounds_begun s.history
  pub room : length s.history + owed_total p plan s.history ≤ plan.limit

-- as a round begins
abbrev pub opened : List Entry → ℕ → SerialState
opened history number = record { history = history ++ entry.Round number ∷ []; looks = λ c. None }

-- the round of that number is legal next, and all that it may add fits the plan's limit
pub record MayBegin (p : Meaning) (plan : Plan) (number : ℕ) (run : Run) (s : SerialState) : Type 0 where
  pub at : IsRunOf p plan run s
  pub next : LegalNext p plan s.history (entry.Round number)
  pub fits : RoundFits plan (length s.history)

-- the run is at a moment of which this holds
abbrev pub IsAt : Meaning → Plan → (SerialState → Type 0) → Run → Type 0
IsAt p plan P run = (s : SerialState) × IsMoment p plan run s × P s

-- from each such moment the core took its next step
abbrev pub Steps : Meaning → Plan → ℕ → (SerialState → Type 0) → (old new : Run) → Type 0
Steps p plan a P old new = (s : SerialState) → IsMoment p plan old s → P s → IsMoment p plan new (step_of p plan s a)

-- from each moment the cores took a step each in that order, or had none left
abbrev pub Moves : Meaning → Plan → List ℕ → (old new : Run) → Type 0
Moves p plan cores old new =
    (s : SerialState) → IsMoment p plan old s → IsMoment p plan new (fold (step_of p plan) s cores)

-- what the core's turn asks next
abbrev pub turn_step_at : Meaning → Plan → ℕ → SerialState → TurnStep
turn_step_at p plan a s = turn_step_of plan (scene_of p plan s.history a) a (s.looks a)

-- it asks to let the thread in
pub record Enters (p : Meaning) (plan : Plan) (a thread : ℕ) (s : SerialState) : Type 0 where
  pub planned : Planned
  pub named : planned.id ≡ thread
  pub step : turn_step_at p plan a s ≡ entering planned

-- to wake it
pub record Wakes (p : Meaning) (plan : Plan) (a thread : ℕ) (s : SerialState) : Type 0 where
  pub blocked : Blocked
  pub named : blocked.task.id ≡ thread
  pub step : turn_step_at p plan a s ≡ waking blocked

-- for what comes where no thread is left to enter or to wake
abbrev pub IsLate : Meaning → Plan → ℕ → SerialState → Type 0
IsLate p plan a s = turn_step_at p plan a s ≡ late_step (own_entries s.history a) (s.looks a)

-- for the unit
abbrev pub OwesUnit : Meaning → Plan → ℕ → SerialState → Type 0
OwesUnit p plan a s = turn_step_at p plan a s ≡ working

-- for the look
abbrev pub OwesLook : Meaning → Plan → ℕ → SerialState → Type 0
OwesLook p plan a s = turn_step_at p plan a s ≡ looking

-- for the attempt by this look
pub record HasLooked (p : Meaning) (plan : Plan) (a : ℕ) (look : Look) (s : SerialState) : Type 0 where
  pub is : IsLookOf p plan s a look
  pub step : turn_step_at p plan a s ≡ attempting look.reads
