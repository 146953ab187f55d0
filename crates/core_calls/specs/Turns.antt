-- A turn of a core: what it starts from, and what comes of it.
use Rattle.std.specs.Prelude.{◌≡◌, ℕ, ◌==◌, Bool, false, List, [], length, Option, Some, None, IsTrue}
use Rattle.std.specs.List.{list_any}
use Rattle.round_model.specs.declared.entry.Entry.{Entry}
use Rattle.round_model.specs.Entries.{ends}
use Rattle.round_model.specs.Scenes.{has_attempted, scene_of}
use Rattle.serial_steps.specs.TurnSteps.{over, turn_step_of}
use Rattle.core_table.specs.declared.views.View.{View}
use Rattle.core_table.specs.Public.{IsOf, view_of}
use Rattle.core_table.specs.Told.{Agrees, IsSeatOf}
use Rattle.core_table.specs.Views.{meaning_in}
use Rattle.steal_phase.specs.Attempts.{own_entries_in}
use Rattle.core_calls.specs.declared.seat_calls.SeatCalls.{SeatCalls}
use Rattle.core_calls.specs.declared.turned.Turned.{Turned}
use Rattle.core_calls.specs.Actors.{actor_of, core_of, seat_of, table_of}

-- the seat of the core has drawn nothing in the round, and holds nothing
pub record IsFresh (v : View) (core : ℕ) : Type 0 where
  pub of_core : IsSeatOf v core
  pub own : v.own ≡ []
  pub free : v.held ≡ []

-- the seat is one of the table, and of the core
pub record IsAtTable (calls : SeatCalls) : Type 0 where
  pub of : IsOf (table_of (actor_of calls)) (seat_of calls)
  pub of_core : IsSeatOf (view_of (seat_of calls)) (core_of (actor_of calls))

-- whether this is the thread that is told
abbrev pub is_told : ℕ → Option ℕ → Bool
is_told id None = false
is_told id (Some thread) = thread == id

-- by the view the model asks nothing more of the core in the round, whatever look it kept
abbrev pub IsOver : View → ℕ → Type 0
IsOver v core = (history : List Entry) → Agrees v history → (look : Option (List ℕ)) →
    turn_step_of v.plan (scene_of (meaning_in v) v.plan history core) core look ≡ over

-- the turn is over: the core has made its attempt, which is the last step, and its seat holds nothing. What is told is
-- the number of its entries, and the thread that ended
pub record HasTurned (core : ℕ) (turned : Turned) (before now : View) : Type 0 where
  pub of_core : IsSeatOf now core
  pub free : now.held ≡ []
  pub is_over : IsOver now core
  pub attempted : IsTrue (has_attempted (own_entries_in now))
  pub entries : length now.own ≡ turned.entries
  pub ended : (id : ℕ) → list_any (ends id) (own_entries_in now) ≡ is_told id turned.ended
  pub rest : now ≡ record before { role = now.role; own = now.own; notes = now.notes; held = now.held }
