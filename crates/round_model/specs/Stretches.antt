-- Stretches of still rounds.
use Rattle.std.specs.Prelude.{ℕ, ◌≤◌, List, length}
use Rattle.round_model.specs.declared.entry.Entry.{Entry}
use Rattle.round_model.specs.Legal.{rounds_begun}
use Rattle.round_model.specs.Rounds.{BeginsAt, IsStill, round_at}

-- the rounds first to last have begun, and are still
pub record IsStillStretch (history : List Entry) (first last : ℕ) : Type 0 where
  pub positive : 1 ≤ first
  pub ordered : first ≤ last
  pub begun : last ≤ rounds_begun history
  pub still : IsStill history first last

-- the position is one of the stretch: from its first Round up to the Round after it, or to the history's end
pub record InStretch (history : List Entry) (first last position : ℕ) : Type 0 where
  pub opening : ℕ
  pub begins : BeginsAt history first opening
  pub not_before : opening ≤ position
  pub not_after : round_at history position ≤ last
  pub there : position ≤ length history
