-- A view whose own entries are those that a turn was told.
use Rattle.std.specs.Prelude.{◌≡◌, ◌↔◌, ℕ, ◌==◌, true, List, map, length, take, IsTrue}
use Rattle.std.specs.Prelude.{Option, Some, None}
use Rattle.std.specs.List.{list_any}
use Rattle.round_model.specs.declared.entry.Entry.{Entry}
use Rattle.round_model.specs.declared.entry.Entry.TheVariants as entry
use Rattle.round_model.specs.declared.plan.Planned.{Planned}
use Rattle.round_model.specs.Entries.{ends, lets_in}
use Rattle.core_state.specs.declared.logged.Logged.{Logged}
use Rattle.core_table.specs.declared.views.Role.TheVariants as role
use Rattle.core_table.specs.declared.views.View.{View}
use Rattle.core_table.specs.Told.{IsSeatOf}
use Rattle.turn_steps.specs.declared.asking.Told.{Told}
use Rattle.turn_steps.specs.declared.asking.Told.TheVariants as told
use Rattle.turn_steps.specs.Answers.{drawn}
use Rattle.turn_steps.specs.Reaches.{IsBehindThreads}
use Rattle.turn_steps.specs.States.{TurnState, entering_by}

-- the view's own entries
abbrev pub own_in : View → List Entry
own_in v = map (λ (l : Logged). l.entry) v.own

-- what a turn is told of the entry
abbrev pub told_of : Entry → Option Told
told_of (entry.Round number) = None
told_of (entry.Enter thread by at reads) = Some told.Arrived
told_of (entry.Wake thread by at reads) = Some told.Woke
told_of (entry.Work by did) = Some (told.Worked did)
told_of (entry.Steal by from threads reads) = Some told.Acted
told_of (entry.Fail by from reads) = Some told.Acted
told_of (entry.Pass by reads) = Some told.Acted

-- the view is that of a seat of the core in the round. Its own entries are those that were told, and let in the first
-- of the threads that enter. Once it was told that nothing is due, the seat has the mark
pub record IsAsTold (t : TurnState) (v : View) : Type 0 where
  pub of_core : IsSeatOf v t.core
  pub round : v.round ≡ t.round
  pub own : map told_of (own_in v) ≡ map Some (drawn t)
  pub entered : (id : ℕ) → list_any (lets_in id) (own_in v)
      ≡ list_any (λ (p : Planned). p.id == id) (take t.arrived (entering_by v.plan t.core t.round))
  pub marked : IsBehindThreads t.reached → v.role ≡ role.Core t.core true

-- these are the number of the view's own entries, and the thread that ends in them
pub record Counts (turned : ℕ × Option ℕ) (v : View) : Type 0 where
  pub entries : length v.own ≡ turned.0
  pub ended : (id : ℕ) → IsTrue (list_any (ends id) (own_in v)) ↔ (turned.1 ≡ Some id)
