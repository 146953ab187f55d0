-- Rounds of serial play.
use Rattle.std.specs.Prelude.{◌≡◌, ℕ, ◌+◌, ◌<◌, List, [], ◌∷◌, ◌++◌, fold, length, None}
use Rattle.policy_tree.specs.Meaning.{Meaning}
use Rattle.round_model.specs.declared.entry.Entry.TheVariants as entry
use Rattle.round_model.specs.declared.plan.Plan.{Plan}
use Rattle.round_model.specs.Legal.{rounds_begun}
use Rattle.round_model.specs.Owed.{owed_total}
use Rattle.serial_steps.specs.Serial.{SerialState, step_of}
use Rattle.serial_steps.specs.SerialRounds.{with_round}
use Rattle.serial_play.specs.declared.play.Play.{Play}
use Rattle.serial_play.specs.Plays.{IsPlay, IsStateOf, look_of}

-- the cores took a step each in that order, or had none left
pub record Moves (p : Meaning) (plan : Plan) (cores : List ℕ) (old new : Play) : Type 0 where
  pub play : IsPlay p plan new
  pub steps : (s : SerialState) → IsStateOf plan old s → IsStateOf plan new (fold (step_of p plan) s cores)
  pub reserve : length new.history + owed_total p plan new.history ≡ length old.history + owed_total p plan old.history
  pub rounds : rounds_begun new.history ≡ rounds_begun old.history

-- the round of that number began
pub record Begins (p : Meaning) (plan : Plan) (number : ℕ) (old new : Play) : Type 0 where
  pub play : IsPlay p plan new
  pub history : new.history ≡ old.history ++ entry.Round number ∷ []
  pub looks : (c : ℕ) → c < plan.cores → look_of new c ≡ None

-- the round of that number was played
pub record PlaysRound (p : Meaning) (plan : Plan) (number : ℕ) (old new : Play) : Type 0 where
  pub play : IsPlay p plan new
  pub history : new.history ≡ with_round p plan old.history number
