-- What a turn asks next, as the code finds it. No promise rests on this.
use Rattle.serial_steps.specs.declared.order.NextInTurn.{NextInTurn}
use Rattle.serial_steps.specs.declared.order.NextInTurn.TheVariants as next
use Rattle.round_model.specs.declared.plan.Plan.{Plan}
use Rattle.serial_steps.specs.Orders.{in_order}
use Rattle.select_phase.specs.declared.looks.Look.{Look}
use Rattle.turn_steps.specs.declared.asking.Ask.{Ask}
use Rattle.turn_steps.specs.declared.asking.Ask.TheVariants as ask
use Rattle.turn_steps.specs.Code.Reaching.{has_acted_in, has_worked_in, may_wake_in}
use Rattle.turn_steps.specs.Reaches.{look_in}
use Rattle.turn_steps.specs.States.{TurnState, next_thread}

-- what is asked where that comes next
abbrev pub ask_for : NextInTurn (Unit {0}) Look → Ask
ask_for (next.Enter thread) = ask.Arrive thread
ask_for (next.Wake due) = ask.Wake
ask_for next.Work = ask.Work
ask_for next.Look = ask.Look
ask_for (next.Attempt look) = ask.Act look
ask_for next.Over = ask.Over

-- what the turn asks, by the order of a turn
abbrev pub asked_of : Plan → TurnState → Ask
asked_of plan t = ask_for (in_order (next_thread plan t) (may_wake_in t.reached) (has_worked_in t.reached)
    (has_acted_in t.reached) (look_in t.reached))
