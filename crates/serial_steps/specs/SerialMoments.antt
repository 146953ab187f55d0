-- Moments of serial play.
use Rattle.std.specs.Prelude.{◌≡◌, ℕ, ◌<◌, List, length, Some}
use Rattle.policy_tree.specs.Meaning.{Meaning}
use Rattle.round_model.specs.declared.plan.Plan.{Plan}
use Rattle.round_model.specs.Legal.{Legal, rounds_begun}
use Rattle.round_model.specs.Reads.{ReadsFit, round_start}
use Rattle.serial_steps.specs.Serial.{SerialState}

-- a moment within a round: the history is legal, a round is open, and each look that is kept was made in it
pub record IsWithinRound (p : Meaning) (plan : Plan) (s : SerialState) : Type 0 where
  pub legal : Legal p plan s.history
  pub begun : 0 < rounds_begun s.history
  pub looks : (c : ℕ) (reads : List ℕ) → c < plan.cores → s.looks c ≡ Some reads →
      ReadsFit plan.cores (round_start s.history) (length s.history) reads
