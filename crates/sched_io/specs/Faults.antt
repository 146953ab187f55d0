-- Faults of the outside world, which an object counts.
use Rattle.std.specs.Prelude.{◌≡◌, ℕ, ◌+◌, min}
use Rattle.sched_io.specs.declared.faults.TheConstants.{MOST_FAULTS}

-- the count rose by one, or it stands at its end, where it can rise no more
abbrev pub Rose : ℕ → ℕ → Type 0
Rose before after = after ≡ min (before + 1) MOST_FAULTS
