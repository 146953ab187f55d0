-- How a step on one core ends, as the code does it. No promise rests on this.
use Rattle.std.specs.Prelude.{◌≡◌, ℕ, ◌+◌, ◌≤◌, List, [], ◌++◌, length, true}
use Rattle.round_model.specs.declared.entry.Entry.{Entry}
use Rattle.core_state.specs.Views.{CoreView}
use Rattle.core_table.specs.declared.views.Note.{Note}
use Rattle.core_table.specs.declared.views.Role.TheVariants as role
use Rattle.core_table.specs.declared.views.View.{View}
use Rattle.core_table.specs.Plays.{Draws}
use Rattle.core_table.specs.Public.{publishing}
use Rattle.core_table.specs.Told.{IsSeatOf}
use Rattle.core_table.specs.Views.{giving}

-- the entry was drawn at that position, the core was shown, and what was taken last was let go
pub record Finished (e : Entry) (core at : ℕ) (before now : View) : Type 0 where
  pub drawn : View
  pub draws : Draws e before at drawn
  pub state : CoreView
  pub given : now ≡ giving (publishing core state drawn)

-- nothing was drawn, nothing is held, and a mark stays
pub record Glimpsed (core : ℕ) (before now : View) : Type 0 where
  pub of_core : IsSeatOf now core
  pub marked : before.role ≡ role.Core core true → now.role ≡ role.Core core true
  pub free : now.held ≡ []
  pub more : List Note
  pub rest : now ≡ record before { role = now.role; notes = more ++ before.notes }

-- at most so many notes came
abbrev pub HasFewMore : ℕ → (before now : View) → Type 0
HasFewMore many before now = length now.notes ≤ many + length before.notes
