-- A worker's hands.
use Rattle.std.specs.Prelude.{◌≡◌, ℕ, zero, suc, ◌+◌, ◌<◌, ◌≤◌, List, length, slice_index_or, Some}
use Rattle.std.specs.Prelude.{vec_capacity, vec_len}
use Rattle.std.specs.Global.{Vec}
use Rattle.core_table.specs.declared.seat.Seat.{Seat}
use Rattle.core_table.specs.declared.seat.Table.{Table}
use Rattle.core_table.specs.declared.views.View.{View}
use Rattle.core_table.specs.Public.{IsOf, plan_of, view_of}
use Rattle.core_table.specs.Views.{leaving}
use Rattle.turn_steps.specs.Reaches.{IsOver}
use Rattle.turn_steps.specs.States.{TurnState, state_of}
use Rattle.crew_play.specs.declared.hands.Hand.{Hand}
use Rattle.core_calls.specs.Stepping.{HasLooked, IsPlaying, IsToldMore}

-- the turn of the hand
abbrev pub turn_in : Hand → TurnState
turn_in h = state_of h.turning

-- the hand has a seat of the table, by which its turn is played
pub record IsHand (table : Table) (Passed : ℕ → ℕ → Type 0) (h : Hand) : Type 0 where
  pub seat : Seat
  pub there : h.seat ≡ Some seat
  pub of : IsOf table seat
  pub playing : IsPlaying (turn_in h) (view_of seat)
  pub low : (turn_in h).core < (plan_of table).cores
  pub passed : HasLooked (turn_in h).reached → Passed (turn_in h).core (turn_in h).round

-- it is that of the core in the round
pub record IsHandOf (table : Table) (Passed : ℕ → ℕ → Type 0) (core round : ℕ) (h : Hand) : Type 0 where
  pub hand : IsHand table Passed h
  pub core_is : (turn_in h).core ≡ core
  pub round_is : (turn_in h).round ≡ round

-- the hand in each place is that of the core that stands so far behind the first
abbrev pub IsCrew : Table → (Passed : ℕ → ℕ → Type 0) → (round first : ℕ) → List Hand → Type 0
IsCrew table Passed round first hands = (k : ℕ) (d : Hand) → k < length hands →
    IsHandOf table Passed (first + k) round (slice_index_or hands k d)

-- all turns are over
abbrev pub AllOver : List Hand → Type 0
AllOver hands = (k : ℕ) (d : Hand) → k < length hands → IsOver (turn_in (slice_index_or hands k d)).reached

-- a step of a hand. Where its turn was over, the turn is as it was, and else it was told more than before
pub record IsStep (before now : Hand) : Type 0 where
  pub rests : IsOver (turn_in before).reached → turn_in now ≡ turn_in before
  pub goes : ¬ IsOver (turn_in before).reached → IsToldMore (turn_in before) (turn_in now)

-- one step of each hand
abbrev pub AreSteps : (before now : List Hand) → Type 0
AreSteps before now = (k : ℕ) (d : Hand) → k < length before → IsStep (slice_index_or before k d) (slice_index_or now k d)

-- nobody has passed, and whoever
abbrev pub Nobody : ℕ → ℕ → Type 0
Nobody core round = ⊥

abbrev pub Anybody : ℕ → ℕ → Type 0
Anybody core round = Unit {0}

-- the opening seat's view once the seats of so many cores are out, from the first on
abbrev pub dealt : (first many : ℕ) → View → View
dealt first zero v = v
dealt first (suc many) v = leaving (first + many) (dealt first many v)

-- each list is empty and has room for so many hands
abbrev pub AllRoomy : ℕ → List (Vec Hand) → Type 0
AllRoomy many lists = (k : ℕ) (d : Vec Hand) → k < length lists →
    (vec_len (slice_index_or lists k d) ≡ 0) × (many ≤ vec_capacity (slice_index_or lists k d))
