-- The sinks in memory, as contracts see them.
use Rattle.std.specs.Prelude.{◌≢◌, ℕ, List, [], None, Option, Some, ◌+◌, ◌<◌, ◌⊎◌, Contains, length, min}
use Rattle.sched_io.specs.declared.memory_sink.MemorySink.{MemorySink}
use Rattle.sched_io.specs.declared.steady_sink.SteadySink.{SteadySink}
use Rattle.sched_io.specs.InMemory.{pieces_in, told_unless}
use Rattle.sched_io.specs.Shown.{Shown}

-- the bytes that the sink was given
abbrev pub bytes_of : MemorySink → List ℕ
bytes_of s = s.bytes.items

-- how many bytes it has room for in all
abbrev pub room_of : MemorySink → ℕ
room_of s = s.room

-- how many bytes of a piece it takes at most
abbrev pub bite_of : MemorySink → ℕ
bite_of s = s.bite

-- the numbers of the puts that fail
abbrev pub failing_puts_of : MemorySink → List ℕ
failing_puts_of s = s.failing.items

-- the number of the next put of something
abbrev pub puts_of : MemorySink → ℕ
puts_of s = s.puts

abbrev pub put_faults_of : MemorySink → ℕ
put_faults_of s = s.faults

-- the pieces that the sink was offered, as long as there was memory to keep them
abbrev pub offered_to : MemorySink → Option (List (List ℕ))
offered_to s = pieces_in s.offered

abbrev pub shown_by_memory : MemorySink → Shown
shown_by_memory s = record { written = Some (bytes_of s); offered = offered_to s; faults = put_faults_of s }

-- The next put of this piece fails: it isn't empty, and its number was chosen or there is no room for what the sink
-- would take of it.
abbrev pub FailsNext : MemorySink → List ℕ → Type 0
FailsNext s piece = (piece ≢ [])
    × (Contains (failing_puts_of s) (puts_of s) ⊎ (room_of s < length (bytes_of s) + min (bite_of s) (length piece)))

-- the bytes that the sink kept: the first that it was given, as far as it has room
abbrev pub kept_by : SteadySink → List ℕ
kept_by s = s.bytes.items

abbrev pub steady_room_of : SteadySink → ℕ
steady_room_of s = s.room

-- its count of faults, which never rises
abbrev pub steady_faults_of : SteadySink → ℕ
steady_faults_of s = 0

-- what it tells: its bytes, unless some were dropped
abbrev pub told_by_steady : SteadySink → Option (List ℕ)
told_by_steady s = told_unless s.overflowed s.bytes.items

-- it doesn't tell the pieces that it was offered
abbrev pub shown_by_steady : SteadySink → Shown
shown_by_steady s = record { written = told_by_steady s; offered = None; faults = steady_faults_of s }
