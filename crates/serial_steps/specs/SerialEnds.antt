-- What serial play comes to where a plan limits the entries of its history.
use Rattle.std.specs.Prelude.{◌≡◌, ℕ, ◌+◌, ◌*◌, ◌<◌, ◌≤◌, List, length}
use Rattle.policy_tree.specs.Meaning.{Meaning}
use Rattle.round_model.specs.declared.entry.Entry.{Entry}
use Rattle.round_model.specs.declared.plan.Plan.{Plan}
use Rattle.round_model.specs.Legal.{IsComplete, IsDue, Legal, Whole}
use Rattle.serial_steps.specs.declared.serial.Played.{Played}
use Rattle.serial_steps.specs.declared.serial.Played.TheVariants as played
use Rattle.serial_steps.specs.SerialRounds.{serial_history, serial_rounds}

-- the most entries of a round: its beginning, two for each core, and one for each thread
abbrev pub most_entries : Plan → ℕ
most_entries plan = 1 + 2 * plan.cores + length plan.threads

-- behind so many entries, all that a round may add fits the plan's limit
abbrev pub RoundFits : Plan → ℕ → Type 0
RoundFits plan entries = entries + most_entries plan ≤ plan.limit

-- a round is due, and all that it may add doesn't fit the plan's limit
pub record IsFull (plan : Plan) (history : List Entry) : Type 0 where
  pub due : IsDue plan history
  pub full : plan.limit < length history + most_entries plan

-- serial play came to its end: its history is whole, and every round fitted
pub record EndsWhole (p : Meaning) (plan : Plan) (history : List Entry) : Type 0 where
  pub serial : history ≡ serial_history p plan
  pub whole : Whole p plan history
  pub few : length history ≤ plan.limit
  pub fitted : (k : ℕ) → IsFull plan (serial_rounds p plan k) → ⊥

-- serial play stopped before the first round that might not fit
pub record StopsFull (p : Meaning) (plan : Plan) (history : List Entry) : Type 0 where
  pub rounds : ℕ
  pub serial : history ≡ serial_rounds p plan rounds
  pub legal : Legal p plan history
  pub complete : IsComplete plan history
  pub few : length history ≤ plan.limit
  pub full : IsFull plan history
  pub first : (k : ℕ) → k < rounds → IsFull plan (serial_rounds p plan k) → ⊥

-- what serial play comes to
abbrev pub IsPlayed : Meaning → Plan → Played → Type 0
IsPlayed p plan (played.Whole history) = EndsWhole p plan history
IsPlayed p plan (played.Full history) = StopsFull p plan history
