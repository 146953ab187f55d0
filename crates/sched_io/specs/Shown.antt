-- What a sink shows of itself, and what a put does to that.
use Rattle.std.specs.Prelude.{◌≡◌, ◌≢◌, ℕ, ◌<◌, ◌≤◌, List, [], ◌∷◌, length, take, Option, Some, None}
use Rattle.sched_io.specs.Faults.{Rose}
use Rattle.sched_io.specs.Written.{Adds, Grows}

pub record Shown : Type 0 where
  -- the bytes that were written so far, where the sink tells them
  pub written : Option (List ℕ)
  -- the pieces that it was offered so far, where it tells them
  pub offered : Option (List (List ℕ))
  -- how often the outside has failed
  pub faults : ℕ

-- where something is told, this holds
abbrev pub WhereTold : {X : Type 0} → Option X → Type 0 → Type 0
WhereTold None P = Unit {0}
WhereTold (Some told) P = P

-- The sink took the first `count` bytes of the piece, and counts no fault.
pub record Takes (piece : List ℕ) (count : ℕ) (before after : Shown) : Type 0 where
  pub few : count ≤ length piece
  -- of a piece that isn't empty something is taken
  pub some : piece ≢ [] → 0 < count
  pub bytes : Adds (take count piece) before.written after.written
  pub pieces : Grows (piece ∷ []) before.offered after.offered
  -- a sink that tells its pieces takes whole ones
  pub whole : WhereTold after.offered (count ≡ length piece)
  pub steady : after.faults ≡ before.faults

-- The outside failed, which counts once, and nothing of the piece was taken. An empty piece isn't refused.
pub record Refuses (piece : List ℕ) (before after : Shown) : Type 0 where
  pub some : piece ≢ []
  pub bytes : Adds [] before.written after.written
  pub pieces : Grows (piece ∷ []) before.offered after.offered
  pub fault : Rose before.faults after.faults
  pub later : before.faults ≤ after.faults
