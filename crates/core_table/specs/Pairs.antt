-- Two cores that a seat holds, in the order in which they were asked for.
use Rattle.std.specs.Prelude.{◌≡◌, ◌≢◌, ℕ, ◌<◌, ◌⊎◌, nat_lt, cond, List, [], ◌∷◌, IsTrue}
use Rattle.round_model.specs.declared.entry.Entry.{Entry}
use Rattle.round_model.specs.Entries.{touches}
use Rattle.core_state.specs.Views.{CoreView}
use Rattle.core_table.specs.declared.views.HeldCore.{HeldCore}
use Rattle.core_table.specs.declared.views.View.{View}
use Rattle.core_table.specs.Public.{IsMoved}
use Rattle.core_table.specs.Views.{note_of_core, taken}

-- what belongs to the cores b and c, over what was there before: the higher number was taken last and stands in front
abbrev pub stacked : {X : Type 0} → (b c : ℕ) → X → X → List X → List X
stacked b c x y before = cond (nat_lt b c) (y ∷ x ∷ before) (x ∷ y ∷ before)

-- the view once the core b is held as y and the core c as z
abbrev pub holding_two : (b : ℕ) → CoreView → (c : ℕ) → CoreView → View → View
holding_two b y c z v = record v {
  held = stacked b c (taken v.plan.cores b y) (taken v.plan.cores c z) v.held;
  notes = stacked b c (note_of_core v.start b y) (note_of_core v.start c z) v.notes;
}

-- the seat holds the core b as y and the core c as z, and nothing else
pub record HasTwo (v : View) (b : ℕ) (y : CoreView) (c : ℕ) (z : CoreView) : Type 0 where
  pub first : HeldCore
  pub second : HeldCore
  pub held : v.held ≡ stacked b c first second []
  pub first_core : first.core ≡ b
  pub first_state : first.state ≡ y
  pub second_core : second.core ≡ c
  pub second_state : second.state ≡ z

-- the seat holds those two cores, the values are the cores once the entry moved them, and it touches no third
pub record HasMovedTwo (e : Entry) (v : View) (b : ℕ) (y : CoreView) (c : ℕ) (z : CoreView) : Type 0 where
  pub first : HeldCore
  pub second : HeldCore
  pub only : v.held ≡ stacked b c first second []
  pub first_core : first.core ≡ b
  pub first_is : IsMoved e v first y
  pub second_core : second.core ≡ c
  pub second_is : IsMoved e v second z
  pub apart : b ≢ c
  pub there : (b < v.plan.cores) × (c < v.plan.cores)
  pub first_touched : IsTrue (touches b e)
  pub second_touched : IsTrue (touches c e)
  pub alone : (d : ℕ) → IsTrue (touches d e) → (d ≡ b) ⊎ (d ≡ c)

-- the words of both held cores say them as they are
abbrev pub MayGiveTwo : View → (b : ℕ) → CoreView → (c : ℕ) → CoreView → Type 0
MayGiveTwo v b y c z = v.held ≡ stacked b c (taken v.plan.cores b y) (taken v.plan.cores c z) []
