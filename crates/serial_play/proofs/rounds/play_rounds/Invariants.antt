use Rattle.std.proofs.Common.{◌≡◌, ◌<◌, ℕ}
use Rattle.policy_tree.specs.Meaning.{meaning_of}
use Rattle.serial_steps.specs.SerialEnds.{IsFull}
use Rattle.serial_steps.specs.SerialRounds.{serial_rounds}
use Rattle.serial_play.specs.Plays.{IsPlay}
use Rattle.serial_play.proofs.rounds.play_rounds.Given as goal

-- so many rounds are played, each of which fitted
abbrev pub invariant-loop-begun : goal.invariant-loop-begun
invariant-loop-begun l = record {
  play : IsPlay (meaning_of l.policy) l.plan l.play;
  serial : l.play.history ≡ serial_rounds (meaning_of l.policy) l.plan l.begun;
  fitted : (k : ℕ) → k < l.begun → IsFull l.plan (serial_rounds (meaning_of l.policy) l.plan k) → ⊥;
}
