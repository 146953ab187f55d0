-- What the private steps of a seat start from, and end with.
use Rattle.std.specs.Prelude.{◌≡◌, ◌≢◌, ℕ, List, ◌∷◌}
use Rattle.core_state.specs.Views.{CoreView}
use Rattle.core_table.specs.declared.slots.Slot.TheVariants as slot
use Rattle.core_table.specs.declared.views.HeldCore.{HeldCore}
use Rattle.core_table.specs.declared.views.View.{View}
use Rattle.core_table.specs.Logs.{RoundLogView}
use Rattle.core_table.specs.Views.{holding, taken}
use Rattle.core_table.specs.Told.{Each, IsKnown}
use Rattle.core_table.specs.Plays.{SeatNow}

-- the core was taken last, its word says it as it is, and it isn't held twice
pub record IsNewest (v : View) (c : ℕ) (y : CoreView) (earlier : List HeldCore) : Type 0 where
  pub held : v.held ≡ taken v.plan.cores c y ∷ earlier
  pub apart : Each (λ x. x.core ≢ c) earlier

-- the seat has taken the core, and its slot is empty
pub record Took (c : ℕ) (y : CoreView) (old new : SeatNow) : Type 0 where
  pub now : new ≡ (holding c y old.0, (c, slot.Out) ∷ old.1)
  pub known : IsKnown (holding c y old.0)

-- the seat has taken the log of the rounds
pub record TookRounds (log : RoundLogView) (old new : SeatNow) : Type 0 where
  pub state : CoreView
  pub is : record { entries = state.log; room = state.log_room } ≡ log
  pub took : Took old.0.plan.cores state old new
