-- What each step tells its seat.
use Rattle.std.specs.Prelude.{◌≡◌, ℕ, ◌-◌, ◌<◌, ◌≤◌, List, ◌∷◌, [], ◌++◌, length}
use Rattle.atomic_table.specs.Table.{Me, Step, rest}
use Rattle.round_model.specs.declared.entry.Entry.{Entry}
use Rattle.round_model.specs.declared.entry.Entry.TheVariants as entry
use Rattle.round_model.specs.After.{after}
use Rattle.core_state.specs.Views.{CoreView}
use Rattle.core_table.specs.declared.slots.Slot.{Slot}
use Rattle.core_table.specs.declared.views.View.{View}
use Rattle.core_table.specs.Words.{out_mark}
use Rattle.core_table.specs.Views.{beginning, drawing, giving, holding, meaning_in, note_of_word, noting}
use Rattle.core_table.specs.Views.{publishing_word, slot_of}
use Rattle.core_table.specs.Told.{Agrees, Each, IsKnown}

-- a seat: its view, and the slots that are out with it
abbrev pub SeatNow : Type 0
SeatNow = Me Slot View

-- the seat has the core that was at home
pub record Takes (c : ℕ) (old new : SeatNow) : Type 0 where
  pub state : CoreView
  pub now : new ≡ (holding c state old.0, (c, slot_of old.0.plan.cores c state) ∷ old.1)
  pub known : IsKnown (holding c state old.0)

-- the core was at home and is taken, or was out and nothing changed
pub record Tries (c : ℕ) (old : SeatNow) (word : ℕ) (new : SeatNow) : Type 0 where
  pub free : word < out_mark → Takes c old new
  pub taken : out_mark ≤ word → new ≡ old

-- what was taken last is back in its slot
pub record GivesBack (old new : SeatNow) : Type 0 where
  pub now : new ≡ (giving old.0, rest old.1)
  pub known : IsKnown (giving old.0)

-- the word of the held core is the one that was written
pub record Publishes (c word : ℕ) (old new : SeatNow) : Type 0 where
  pub now : new ≡ (publishing_word c word old.0, old.1)
  pub known : IsKnown (publishing_word c word old.0)

-- what the word said is true, and no earlier than any other note of the core
pub record Reads (c : ℕ) (old : SeatNow) (word : ℕ) (new : SeatNow) : Type 0 where
  pub seat : new ≡ (noting (note_of_word old.0.start c word) old.0, old.1)
  pub known : IsKnown (noting (note_of_word old.0.start c word) old.0)
  pub latest : Each (λ x. x.core ≡ c → x.at ≤ (note_of_word old.0.start c word).at) old.0.notes

-- the history had n entries and agreed with the view before, and with the entry more it agrees with the view after
pub record Draws (e : Entry) (old : View) (n : ℕ) (new : View) : Type 0 where
  pub history : List Entry
  pub before : Agrees old history
  pub at : length history ≡ n
  pub below : n < old.plan.limit
  pub view : new ≡ drawing n e (after (meaning_in old) old.plan history) old
  pub now : Agrees new (history ++ e ∷ [])

-- the same of the Round of that number, with which all is merged
pub record Begins (number : ℕ) (old : View) (n : ℕ) (new : View) : Type 0 where
  pub history : List Entry
  pub before : Agrees old history
  pub at : length history ≡ n
  pub below : n < old.plan.limit
  pub view : new ≡ beginning number n (after (meaning_in old) old.plan history)
      (history ++ entry.Round number ∷ []) old
  pub now : Agrees new (history ++ entry.Round number ∷ [])

-- nothing changed, and the seat's view is known
pub record Tells (old new : SeatNow) : Type 0 where
  pub same : new ≡ old
  pub known : IsKnown old.0

-- the number of the core, or of the log of the rounds, that the step's word is about
abbrev pub slot_at : Step Slot → ℕ
slot_at st = st.word - 1

-- what a step tells, of the seat before, the word found and the seat after
abbrev pub tries : Step Slot → SeatNow → ℕ → SeatNow → Type 0
tries st = Tries (slot_at st)

abbrev pub gives_back : Step Slot → SeatNow → ℕ → SeatNow → Type 0
gives_back st old word new = GivesBack old new

abbrev pub publishes : Step Slot → SeatNow → ℕ → SeatNow → Type 0
publishes st old word new = Publishes (slot_at st) word old new

abbrev pub reads : Step Slot → SeatNow → ℕ → SeatNow → Type 0
reads st = Reads (slot_at st)

abbrev pub tells : Step Slot → SeatNow → ℕ → SeatNow → Type 0
tells st old word new = Tells old new

-- the same for a draw: the seat's slots stay
abbrev pub draws : Entry → SeatNow → ℕ → SeatNow → Type 0
draws e old n new = Draws e old.0 n new.0 × (new.1 ≡ old.1)

abbrev pub begins : ℕ → SeatNow → ℕ → SeatNow → Type 0
begins number old n new = Begins number old.0 n new.0 × (new.1 ≡ old.1)
