-- How much room a worker's list has.
use Rattle.std.specs.Prelude.{ℕ, ◌+◌, ◌/◌}

-- as many cores as no worker's share passes
unfoldable pub room_for : (cores workers : ℕ) → ℕ
room_for cores workers = cores / workers + 1
