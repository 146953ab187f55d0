-- The numbers that made threads are drawn from.
use Rattle.std.specs.Prelude.{ℕ, zero, suc, ◌+◌, ◌*◌, ◌/◌, ◌%◌, ◌^◌}

-- what a state is multiplied by, and what is added then
abbrev pub multiplier : ℕ
multiplier = 6364136223846793005

abbrev pub increment : ℕ
increment = 1442695040888963407

-- the state behind that one
unfoldable pub next_state : ℕ → ℕ
next_state state = (state * multiplier + increment) % 2 ^ 64

-- the number that is drawn from a state
unfoldable pub drawn : ℕ → ℕ
drawn state = state / 2 ^ 33

-- the state behind the seed, so many steps later
abbrev pub state_after : ℕ → ℕ → ℕ
state_after seed zero = seed
state_after seed (suc steps) = next_state (state_after seed steps)
