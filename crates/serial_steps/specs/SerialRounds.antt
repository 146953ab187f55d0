-- Serial play: one history of each plan, in which the cores take turns by the order lines.
use Rattle.std.specs.Prelude.{ℕ, ◌+◌, ◌*◌, ◌==◌, cond, List, [], ◌∷◌, ◌++◌, length, fold, replicate, find, flat_map}
use Rattle.std.specs.Prelude.{Option, Some, None}
use Rattle.std.specs.List.{range_with_len}
use Rattle.policy_tree.specs.Meaning.{Meaning}
use Rattle.round_model.specs.declared.entry.Entry.{Entry}
use Rattle.round_model.specs.declared.entry.Entry.TheVariants as entry
use Rattle.round_model.specs.declared.plan.OrderLine.{OrderLine}
use Rattle.round_model.specs.declared.plan.Plan.{Plan}
use Rattle.round_model.specs.Cores.{core_numbers}
use Rattle.round_model.specs.Legal.{is_due}
use Rattle.serial_steps.specs.Serial.{SerialState, step_of}

-- the cores of an order line: none where the round has no line
abbrev pub cores_in : Option OrderLine → List ℕ
cores_in None = []
cores_in (Some line) = line.cores

-- the cores of the round's order line
abbrev pub order_of : Plan → ℕ → List ℕ
order_of plan number = cores_in (find (λ (l : OrderLine). l.round == number) plan.orders)

-- the most steps of a turn: each thread may enter and wake, and there is a unit, a look and an attempt
abbrev pub most_steps : Plan → ℕ
most_steps plan = 2 * length plan.threads + 3

-- each core so often that its turn is over: no turn has more steps, and a step past its end is none
abbrev pub remaining_turns : Plan → List ℕ
remaining_turns plan = flat_map (λ c. replicate (most_steps plan) c) (core_numbers plan)

-- the history with one round more, where one is due
unfoldable pub with_round : Meaning → Plan → List Entry → ℕ → List Entry
with_round p plan history number =
    let opened : SerialState = record { history = history ++ entry.Round number ∷ []; looks = λ c. None } in
    cond (is_due plan history)
    (fold (step_of p plan) opened (order_of plan number ++ remaining_turns plan)).history
    history

-- the history of so many rounds of serial play, or of all that come due
abbrev pub serial_rounds : Meaning → Plan → ℕ → List Entry
serial_rounds p plan rounds = fold (with_round p plan) [] (range_with_len 1 rounds)

-- the serial history of a plan
abbrev pub serial_history : Meaning → Plan → List Entry
serial_history p plan = serial_rounds p plan plan.rounds
