-- A core's turn that is played step by step: what its turning knows, and what a step adds.
use Rattle.std.specs.Prelude.{◌≡◌, ℕ, ◌<◌, ◌⊎◌, Bool, true, false, List, [], length, Some}
use Rattle.round_model.specs.declared.entry.Did.{Did}
use Rattle.round_model.specs.declared.entry.Entry.{Entry}
use Rattle.round_model.specs.declared.entry.Entry.TheVariants as entry
use Rattle.round_model.specs.Entries.{reads_of}
use Rattle.round_model.specs.Kinds.{is_attempt}
use Rattle.serial_steps.specs.TurnSteps.{TurnStep, attempting, entering, looking, over, waking, working}
use Rattle.core_table.specs.declared.views.View.{View}
use Rattle.core_table.specs.Told.{Agrees}
use Rattle.core_calls.specs.Calls.{LooksAt}
use Rattle.core_calls.specs.Steps.{AddsNext}
use Rattle.select_phase.specs.declared.looks.Look.{Look}
use Rattle.select_phase.specs.Seen.{AreLast, Looked}
use Rattle.turn_steps.specs.declared.asking.Told.{Told}
use Rattle.turn_steps.specs.declared.asking.Told.TheVariants as said
use Rattle.turn_steps.specs.declared.reached.Reached.{Reached}
use Rattle.turn_steps.specs.declared.reached.Reached.TheVariants as reached
use Rattle.turn_steps.specs.Answers.{told_so_far, with_told}
use Rattle.turn_steps.specs.Asks.{step_after}
use Rattle.turn_steps.specs.Reaches.{IsBehindThreads, IsOver}
use Rattle.turn_steps.specs.States.{IsTurnOf, TurnState}
use Rattle.turn_steps.specs.Views.{IsAsTold, told_of}

-- a look that was told and not acted by is the core's, and the last that the seat read
abbrev pub HasLook : View → (core : ℕ) → Reached → Type 0
HasLook v core reached.Threads = Unit {0}
HasLook v core reached.NothingDue = Unit {0}
HasLook v core (reached.Worked did) = Unit {0}
HasLook v core (reached.Looked did look) = (look.by ≡ core) × Looked v look × AreLast v look.reads
HasLook v core (reached.Acted did look) = Unit {0}

-- a look was told
abbrev pub HasLooked : Reached → Type 0
HasLooked reached.Threads = ⊥
HasLooked reached.NothingDue = ⊥
HasLooked (reached.Worked did) = ⊥
HasLooked (reached.Looked did look) = Unit {0}
HasLooked (reached.Acted did look) = Unit {0}

-- the turn was told exactly what the core's calls answered in the round, of which the view knows
pub record IsPlaying (t : TurnState) (v : View) : Type 0 where
  pub told : IsAsTold t v
  pub of_plan : IsTurnOf v.plan t
  pub all : IsBehindThreads t.reached → t.arrived ≡ t.entering
  pub free : v.held ≡ []
  pub look : HasLook v t.core t.reached

-- it is the turn of the same core in the same round
pub record IsSameTurn (before now : TurnState) : Type 0 where
  pub core : now.core ≡ before.core
  pub round : now.round ≡ before.round

-- it was told more than before
abbrev pub IsToldMore : (before now : TurnState) → Type 0
IsToldMore before now = length (told_so_far before) < length (told_so_far now)

-- the core's entry is that for which the model asks by this step
abbrev pub IsEntryFor : (core : ℕ) → TurnStep → Entry → Type 0
IsEntryFor core (entering thread) e =
    (at : ℕ) × (reads : List ℕ) × (e ≡ entry.Enter thread.id core at reads)
IsEntryFor core (waking blocked) e =
    (at : ℕ) × (reads : List ℕ) × (e ≡ entry.Wake blocked.task.id core at reads)
IsEntryFor core working e = (did : Did) × (e ≡ entry.Work core did)
IsEntryFor core looking e = ⊥
IsEntryFor core (attempting reads) e = (is_attempt e ≡ true) × (reads_of e ≡ reads)
IsEntryFor core over e = ⊥

-- the core drew one entry: the one that the model asks next, after the history before it. The turn was told of it, and
-- of no other. Before a unit it was told also that nothing is due
pub record AddsAsked (t u : TurnState) (before now : View) : Type 0 where
  pub at : ℕ
  pub added : Entry
  pub adds : AddsNext t.core at added before now
  pub asked : IsEntryFor t.core (step_after t before adds.next.history) added
  pub answer : Told
  pub tells : told_of added ≡ Some answer
  pub told : u ≡ with_told answer t

-- the model asks that the core looks, and it did, once. It drew nothing, and the turn was told of the look
pub record LooksAsked (t u : TurnState) (before now : View) : Type 0 where
  pub asked : (history : List Entry) → Agrees before history → step_after t before history ≡ looking
  pub look : Look
  pub looked : LooksAt look before now
  pub told : u ≡ with_told (said.Looked look) t

-- the model asks nothing more. The core did nothing, and the turn was told nothing
pub record RestsAsked (t u : TurnState) (before now : View) : Type 0 where
  pub asked : (history : List Entry) → Agrees before history → step_after t before history ≡ over
  pub over : IsOver t.reached
  pub same : now ≡ before
  pub untold : u ≡ t

-- what a step did that goes on, or doesn't: the turn was t and is u
abbrev pub Steps : Bool → (t u : TurnState) → (before now : View) → Type 0
Steps true t u before now = AddsAsked t u before now ⊎ LooksAsked t u before now
Steps false t u before now = RestsAsked t u before now
