-- What the calls on a table ask of their caller and tell it.
use Rattle.std.specs.Prelude.{◌≡◌, ℕ, ◌<◌, [], ◌∷◌, map, Some, IsTrue}
use mathlib.Core.Option.{some}
use lib.ListN.{get_elem?}
use Rattle.policy_tree.specs.declared.typed.Policy.{Policy}
use Rattle.round_model.specs.declared.entry.Entry.{Entry}
use Rattle.round_model.specs.declared.plan.Plan.{Plan}
use Rattle.round_model.specs.After.{moved}
use Rattle.round_model.specs.Cores.{Cores}
use Rattle.round_model.specs.Entries.{acting_core, touches}
use Rattle.core_state.specs.Views.{CoreView}
use Rattle.core_table.specs.declared.plays.Opening.{Opening}
use Rattle.core_table.specs.declared.seat.Seat.{Seat}
use Rattle.core_table.specs.declared.seat.Table.{Table}
use Rattle.core_table.specs.declared.views.HeldCore.{HeldCore}
use Rattle.core_table.specs.declared.views.View.{View}
use Rattle.core_table.specs.Views.{meaning_in, note_of_core, published}
use Rattle.core_table.specs.Told.{Each, IsKnown, IsSeatOf}
use Rattle.core_table.specs.Opened.{IsOfOpening}

-- what the seat knows
abbrev pub view_of : Seat → View
view_of s = s.place.me.0

-- what the table was opened with
abbrev pub opening_of : Table → Opening
opening_of t = t.inner.shared.key

abbrev pub policy_of : Table → Policy
policy_of t = (opening_of t).policy.value

abbrev pub plan_of : Table → Plan
plan_of t = (opening_of t).plan.value

-- the seat came from that table
pub record IsOf (t : Table) (s : Seat) : Type 0 where
  pub table : s.place.table_id ≡ t.inner.shared.table_id
  pub opening : IsOfOpening (opening_of t) (view_of s)

-- the seat is the table's and has that view, with which some history agrees
pub record Becomes (t : Table) (s : Seat) (v : View) : Type 0 where
  pub of : IsOf t s
  pub view : view_of s ≡ v
  pub known : IsKnown v

-- the seat is the table's and has that view
pub record Stays (t : Table) (s : Seat) (v : View) : Type 0 where
  pub of : IsOf t s
  pub view : view_of s ≡ v

-- the view once the word of the held core says it as it is, which is y
abbrev pub publishing : ℕ → CoreView → View → View
publishing c y v = record v {
  held = map (published v.plan.cores c) v.held;
  notes = note_of_core v.start c y ∷ v.notes;
}

-- the seat holds the core, as that value
pub record HasCore (v : View) (c : ℕ) (y : CoreView) : Type 0 where
  pub place : ℕ
  pub of : HeldCore
  pub there : get_elem? v.held place ≡ some of
  pub core : of.core ≡ c
  pub state : of.state ≡ y

-- the seat holds that core alone, as that value
pub record HasOne (v : View) (c : ℕ) (y : CoreView) : Type 0 where
  pub of : HeldCore
  pub held : v.held ≡ of ∷ []
  pub core : of.core ≡ c
  pub state : of.state ≡ y

-- the value is the held core once the entry moved it, but for its log, in every state that has what is held
abbrev pub IsMoved : Entry → View → HeldCore → CoreView → Type 0
IsMoved e v x y = (m : Cores) → Each (λ z. m z.core ≡ z.state.core) v.held →
    y ≡ record x.state { core = moved (meaning_in v) v.plan v.round e m x.core }

-- the seat holds that core alone, the value is the core once the entry moved it, and the entry touches no other
pub record HasMoved (e : Entry) (v : View) (c : ℕ) (y : CoreView) : Type 0 where
  pub of : HeldCore
  pub only : v.held ≡ of ∷ []
  pub core : of.core ≡ c
  pub is : IsMoved e v of y
  pub there : c < v.plan.cores
  pub touched : IsTrue (touches c e)
  pub alone : (d : ℕ) → IsTrue (touches d e) → d ≡ c

-- the seat is that of the entry's acting core
pub record IsActors (v : View) (e : Entry) : Type 0 where
  pub actor : ℕ
  pub acting : acting_core e ≡ Some actor
  pub own : IsSeatOf v actor
