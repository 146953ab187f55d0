-- What a contract sees of a turn.
use Rattle.std.specs.Prelude.{◌≡◌, ℕ, ◌==◌, ◌&&◌, Bool, List, Option, length, filter, option_map, slice_get}
use Rattle.round_model.specs.declared.plan.Plan.{Plan}
use Rattle.round_model.specs.declared.plan.Planned.{Planned}
use Rattle.turn_steps.specs.declared.reached.Reached.{Reached}
use Rattle.turn_steps.specs.declared.reached.Reached.TheVariants as reached
use Rattle.turn_steps.specs.declared.turning.Turning.{Turning}

-- how far a turn has come
pub record TurnState : Type 0 where
  -- whose turn it is, and in which round
  pub core : ℕ
  pub round : ℕ
  -- how many threads of the plan enter by the core in the round, and how many of them have
  pub entering : ℕ
  pub arrived : ℕ
  -- how many threads of the core woke
  pub woke : ℕ
  -- what was told behind these
  pub reached : Reached

abbrev pub state_of : Turning → TurnState
state_of t = record {
  core = t.core;
  round = t.round;
  entering = t.entering;
  arrived = t.arrived;
  woke = t.woke;
  reached = t.reached;
}

-- whether the thread enters by the core in the round
abbrev pub enters_by : (core round : ℕ) → Planned → Bool
enters_by core round t = (t.core == core) && (t.round == round)

-- the threads of the plan that do, in their order
abbrev pub entering_by : Plan → (core round : ℕ) → List Planned
entering_by plan core round = filter (enters_by core round) plan.threads

-- a turn of the core in the round of which nothing was told
abbrev pub first_state : Plan → (core round : ℕ) → TurnState
first_state plan core round = record {
  core = core;
  round = round;
  entering = length (entering_by plan core round);
  arrived = 0;
  woke = 0;
  reached = reached.Threads;
}

-- by the plan, as many threads enter as the turn counts
abbrev pub IsTurnOf : Plan → TurnState → Type 0
IsTurnOf plan t = t.entering ≡ length (entering_by plan t.core t.round)

-- the thread that enters next, if one is left: by the plan's order it stands behind those that have
abbrev pub next_thread : Plan → TurnState → Option ℕ
next_thread plan t =
    option_map (λ (p : Planned). p.id) (slice_get (entering_by plan t.core t.round) t.arrived)
