-- What the serial history of a plan is meant to be.
use Rattle.std.specs.Prelude.{◌≡◌, ℕ, ◌*◌, ◌<◌, ◌≤◌, List, ◌++◌, length}
use Rattle.policy_tree.specs.Meaning.{Meaning}
use Rattle.policy_eval.specs.Obligations.{MeetsHandlerObligations}
use Rattle.round_model.specs.declared.entry.Entry.{Entry}
use Rattle.round_model.specs.declared.plan.Plan.{Plan}
use Rattle.round_model.specs.Fits.{Fits}
use Rattle.round_model.specs.Legal.{IsComplete, Legal, Whole, rounds_begun}
use Rattle.serial_steps.specs.SerialEnds.{StopsFull, most_entries}
use Rattle.serial_steps.specs.SerialRounds.{serial_history, serial_rounds}

-- the history begins the serial history of the plan
pub record IsBeginning (p : Meaning) (plan : Plan) (history : List Entry) : Type 0 where
  pub rest : List Entry
  pub whole : serial_history p plan ≡ history ++ rest

-- so many rounds of serial play: a legal beginning of the serial history, in complete rounds of `most_entries` at most
pub record AreRounds (p : Meaning) (plan : Plan) (k : ℕ) : Type 0 where
  pub legal : Legal p plan (serial_rounds p plan k)
  pub complete : IsComplete plan (serial_rounds p plan k)
  pub rounds : rounds_begun (serial_rounds p plan k) ≤ k
  pub few : length (serial_rounds p plan k) ≤ k * most_entries plan
  pub begins : IsBeginning p plan (serial_rounds p plan k)

-- so it is of every number of rounds
abbrev pub SerialRoundsLaw : Type 0
SerialRoundsLaw = (p : Meaning) (plan : Plan) (k : ℕ) → Fits p plan → MeetsHandlerObligations p → AreRounds p plan k

-- the serial history is whole
abbrev pub SerialWholeLaw : Type 0
SerialWholeLaw = (p : Meaning) (plan : Plan) → Fits p plan → MeetsHandlerObligations p →
    Whole p plan (serial_history p plan)

-- what is left where play stops before a round that might not fit: fewer rounds than the plan has, and a beginning of
-- the serial history
pub record IsShortOfWhole (p : Meaning) (plan : Plan) (history : List Entry) : Type 0 where
  pub rounds : rounds_begun history < plan.rounds
  pub begins : IsBeginning p plan history

abbrev pub StopsFullLaw : Type 0
StopsFullLaw = (p : Meaning) (plan : Plan) (history : List Entry) → Fits p plan → MeetsHandlerObligations p →
    StopsFull p plan history → IsShortOfWhole p plan history
