-- The steps of a core with its own threads: what each needs, and what comes of it.
use Rattle.std.specs.Prelude.{◌≡◌, ℕ, ◌+◌, ◌<◌, ◌≤◌, List, [], ◌++◌, length, true, IsFalse, IsNone, IsSomeAnd}
use Rattle.round_model.specs.declared.entry.Did.{Did}
use Rattle.round_model.specs.declared.entry.Entry.{Entry}
use Rattle.round_model.specs.declared.entry.Entry.TheVariants as entry
use Rattle.round_model.specs.declared.plan.Planned.{Planned}
use Rattle.round_model.specs.Scenes.{entering_next, has_worked}
use Rattle.core_table.specs.declared.views.Note.{Note}
use Rattle.core_table.specs.declared.views.Role.TheVariants as role
use Rattle.core_table.specs.declared.views.View.{View}
use Rattle.core_table.specs.Told.{IsSeatOf}
use Rattle.select_phase.specs.Seen.{AreLate}
use Rattle.steal_phase.specs.Attempts.{HasAdded, IsNext, own_entries_in}

-- no thread is left that the core is to let in
abbrev pub HasLetAllIn : View → ℕ → Type 0
HasLetAllIn v core = IsNone (entering_next v.plan v.round core (own_entries_in v))

-- the core may let the thread in: it is the next to enter, and the core's seat holds nothing
pub record MayEnter (v : View) (core thread : ℕ) : Type 0 where
  pub of_core : IsSeatOf v core
  pub next : IsSomeAnd (entering_next v.plan v.round core (own_entries_in v)) (λ (t : Planned). t.id ≡ thread)
  pub free : v.held ≡ []

-- the core may wake the next thread, if one is due
pub record MayWake (v : View) (core : ℕ) : Type 0 where
  pub of_core : IsSeatOf v core
  pub entered : HasLetAllIn v core
  pub free : v.held ≡ []

-- the core may run its unit: the seat has the mark that none of its threads is due, and hasn't worked in the round
pub record MayWork (v : View) (core : ℕ) : Type 0 where
  pub marked : v.role ≡ role.Core core true
  pub entered : HasLetAllIn v core
  pub first : IsFalse (has_worked (own_entries_in v))
  pub free : v.held ≡ []

-- the core's seat has that entry more, which was legal, and holds nothing
pub record AddsNext (core at : ℕ) (e : Entry) (before now : View) : Type 0 where
  pub added : HasAdded core at e before now
  pub next : IsNext at e before

-- where a placement looks, no more was read than this. Beside it so many notes may come, by holds and by words written
abbrev pub ReadsAtMost : (others : ℕ) → (before now : View) → List ℕ → Type 0
ReadsAtMost others before now reads = 0 < length reads →
    length now.notes ≤ length reads + others + length before.notes

-- the thread entered by the core, and was placed by these reads, none earlier than it knew its core. One core was held
-- and shown
pub record Entered (core thread at : ℕ) (before now : View) : Type 0 where
  pub to : ℕ
  pub reads : List ℕ
  pub late : AreLate before reads
  pub all : ReadsAtMost 2 before now reads
  pub adds : AddsNext core at (entry.Enter thread core to reads) before now

-- a thread of the core woke, and was placed by these reads, none earlier than it knew its core. The core was held to
-- see who is due, and at most two cores were held and shown
pub record Woken (core at : ℕ) (before now : View) : Type 0 where
  pub thread : ℕ
  pub to : ℕ
  pub reads : List ℕ
  pub late : AreLate before reads
  pub all : ReadsAtMost 5 before now reads
  pub adds : AddsNext core at (entry.Wake thread core to reads) before now

-- the core ran its unit, of which this is said
pub record Worked (core : ℕ) (what : Did) (before now : View) : Type 0 where
  pub at : ℕ
  pub adds : AddsNext core at (entry.Work core what) before now

-- nothing was drawn. The seat has the mark: in no history with which its view agrees is a thread of the core due
pub record HasNoneDue (core : ℕ) (before now : View) : Type 0 where
  pub marked : now.role ≡ role.Core core true
  pub more : List Note
  pub rest : now ≡ record before { role = now.role; notes = more ++ before.notes }
