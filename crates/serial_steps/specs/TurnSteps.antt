-- What a turn asks of its core next, by what is known at the core.
use Rattle.std.specs.Prelude.{ℕ, cond, List, Option, Some, None}
use Rattle.round_model.specs.declared.entry.Entry.{Entry}
use Rattle.round_model.specs.declared.plan.Plan.{Plan}
use Rattle.round_model.specs.declared.plan.Planned.{Planned}
use Rattle.round_model.specs.declared.state.Blocked.{Blocked}
use Rattle.round_model.specs.Scenes.{Scene, entering_next, has_attempted, has_worked, waking_next}

-- the next step of a turn: to let a thread in, to wake one, to run the unit, to look at all cores, or to make the
-- attempt by the look that was kept. After the attempt the turn is over
pub data TurnStep : Type 0 where
  entering : Planned → TurnStep
  waking : Blocked → TurnStep
  working : TurnStep
  looking : TurnStep
  attempting : List ℕ → TurnStep
  over : TurnStep

-- behind the unit, where the core kept this look or none
abbrev pub step_behind_unit : Option (List ℕ) → TurnStep
step_behind_unit None = looking
step_behind_unit (Some reads) = attempting reads

-- where no thread is left to enter or to wake, of a core with these own entries in the round
abbrev pub late_step : List Entry → Option (List ℕ) → TurnStep
late_step own look = cond (has_attempted own) over (cond (has_worked own) (step_behind_unit look) working)

-- where no thread is left to enter, and this one is the next to wake
abbrev pub step_to_wake : List Entry → Option (List ℕ) → Option Blocked → TurnStep
step_to_wake own look None = late_step own look
step_to_wake own look (Some b) = waking b

-- where this thread is the next to enter
abbrev pub step_to_enter : Scene → ℕ → Option (List ℕ) → Option Planned → TurnStep
step_to_enter s a look None = step_to_wake s.own look (waking_next s.round (s.cores a))
step_to_enter s a look (Some t) = entering t

-- what the turn of the core a asks next at that moment, where the core kept this look or none
unfoldable pub turn_step_of : Plan → Scene → ℕ → Option (List ℕ) → TurnStep
turn_step_of plan s a look = step_to_enter s a look (entering_next plan s.round a s.own)
