-- What a history says of a thread, and how often the thread stands at cores.
use Rattle.std.specs.Prelude.{◌≡◌, ℕ, ◌==◌, cond, List, fold, count_by, map, sum}
use Rattle.round_model.specs.declared.entry.Did.{Did}
use Rattle.round_model.specs.declared.entry.Did.TheVariants as did
use Rattle.round_model.specs.declared.entry.Entry.{Entry}
use Rattle.round_model.specs.declared.entry.Entry.TheVariants as entry
use Rattle.round_model.specs.declared.plan.Plan.{Plan}
use Rattle.round_model.specs.Cores.{Cores, core_numbers, tasks_of}
use Rattle.round_model.specs.Moves.{is_blocked_task, is_task}

-- where a thread is in its life: by the history alone, so that a state can be held against it
pub data Phase : Type 0 where
  outside : Phase
  live : Phase
  waiting : Phase
  over : Phase

-- the phase after a unit of which the word says what became of the thread
abbrev pub phase_after_work : ℕ → Phase → Did → Phase
phase_after_work id phase did.Nothing = phase
phase_after_work id phase (did.Kept thread) = cond (thread == id) live phase
phase_after_work id phase (did.Queued thread) = cond (thread == id) live phase
phase_after_work id phase (did.Blocked thread) = cond (thread == id) waiting phase
phase_after_work id phase (did.Ended thread) = cond (thread == id) over phase

-- the phase after an entry
abbrev pub phase_after : ℕ → Phase → Entry → Phase
phase_after id phase (entry.Enter thread by at reads) = cond (thread == id) live phase
phase_after id phase (entry.Wake thread by at reads) = cond (thread == id) live phase
phase_after id phase (entry.Work by what) = phase_after_work id phase what
phase_after id phase e = phase

-- the phase after a history: by the last Enter, Wake or Work that names the thread
abbrev pub phase_of : ℕ → List Entry → Phase
phase_of id history = fold (phase_after id) outside history

-- in how many places the thread is current or queued
abbrev pub places_of : Plan → Cores → ℕ → ℕ
places_of plan m id = sum (map (λ c. count_by (is_task id) (tasks_of (m c))) (core_numbers plan))

-- in how many places the thread is blocked
abbrev pub blocked_places_of : Plan → Cores → ℕ → ℕ
blocked_places_of plan m id = sum (map (λ c. count_by (is_blocked_task id) (m c).blocked) (core_numbers plan))

-- a live thread stands in one place and is blocked in none, a blocked one the reverse, any other nowhere
abbrev pub Stands : Phase → ℕ → ℕ → Type 0
Stands outside places blocked = (places ≡ 0) × (blocked ≡ 0)
Stands live places blocked = (places ≡ 1) × (blocked ≡ 0)
Stands waiting places blocked = (places ≡ 0) × (blocked ≡ 1)
Stands over places blocked = (places ≡ 0) × (blocked ≡ 0)
