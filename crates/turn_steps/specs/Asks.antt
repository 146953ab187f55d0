-- What a turn asks is what the model asks.
use Rattle.std.specs.Prelude.{◌≡◌, ◌↔◌, List, option_map, IsSomeAnd}
use Rattle.round_model.specs.declared.entry.Entry.{Entry}
use Rattle.round_model.specs.declared.plan.Plan.{Plan}
use Rattle.round_model.specs.Scenes.{scene_of}
use Rattle.serial_steps.specs.TurnSteps.{TurnStep, attempting, entering, looking, over, turn_step_of}
use Rattle.serial_steps.specs.TurnSteps.{waking, working}
use Rattle.core_table.specs.declared.views.View.{View}
use Rattle.core_table.specs.Told.{Agrees}
use Rattle.core_table.specs.Views.{meaning_in}
use Rattle.select_phase.specs.declared.looks.Look.{Look}
use Rattle.turn_steps.specs.declared.asking.Ask.{Ask}
use Rattle.turn_steps.specs.declared.asking.Ask.TheVariants as ask
use Rattle.turn_steps.specs.declared.reached.Reached.{Reached}
use Rattle.turn_steps.specs.declared.reached.Reached.TheVariants as reached
use Rattle.turn_steps.specs.Reaches.{look_in}
use Rattle.turn_steps.specs.States.{TurnState}
use Rattle.turn_steps.specs.Views.{IsAsTold}

-- where the model asks for the unit, the turn asks to wake until it was told that nothing is due
abbrev pub ask_for_unit : Reached → Ask
ask_for_unit reached.Threads = ask.Wake
ask_for_unit reached.NothingDue = ask.Work
ask_for_unit (reached.Worked did) = ask.Work
ask_for_unit (reached.Looked did look) = ask.Work
ask_for_unit (reached.Acted did look) = ask.Work

-- the turn asks for this step of the model
abbrev pub IsAskFor : TurnState → TurnStep → Ask → Type 0
IsAskFor t (entering thread) asked = asked ≡ ask.Arrive thread.id
IsAskFor t (waking blocked) asked = asked ≡ ask.Wake
IsAskFor t working asked = asked ≡ ask_for_unit t.reached
IsAskFor t looking asked = asked ≡ ask.Look
IsAskFor t (attempting reads) asked =
    IsSomeAnd (look_in t.reached) (λ look. (look.reads ≡ reads) × (asked ≡ ask.Act look))
IsAskFor t over asked = asked ≡ ask.Over

-- what the model asks next of the turn's core after the history. The core kept the look that was told
abbrev pub step_after : TurnState → View → List Entry → TurnStep
step_after t v history = turn_step_of v.plan (scene_of (meaning_in v) v.plan history t.core) t.core
    (option_map (λ (look : Look). look.reads) (look_in t.reached))

-- the turn asks what the model asks, and asks nothing more exactly where the model asks nothing more
pub record AsksNext (t : TurnState) (asked : Ask) (step : TurnStep) : Type 0 where
  pub next : IsAskFor t step asked
  pub over : (asked ≡ ask.Over) ↔ (step ≡ over)

-- so it is by each view of the plan that is as was told, after each history with which it agrees
abbrev pub AsksAsModel : Plan → TurnState → Ask → Type 0
AsksAsModel plan t asked = (v : View) (history : List Entry) → v.plan ≡ plan → IsAsTold t v →
    Agrees v history → AsksNext t asked (step_after t v history)
