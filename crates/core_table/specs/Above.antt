-- Where a drawn position stands among all positions that the seat has met.
use Rattle.std.specs.Prelude.{ℕ, ◌<◌, ◌≤◌, List, length}
use Rattle.core_state.specs.declared.logged.Logged.{Logged}
use Rattle.core_table.specs.declared.views.Role.{Role}
use Rattle.core_table.specs.declared.views.Role.TheVariants as role
use Rattle.core_table.specs.declared.views.Turn.{Turn}
use Rattle.core_table.specs.declared.views.Turn.TheVariants as turn
use Rattle.core_table.specs.declared.views.View.{View}
use Rattle.core_table.specs.Told.{Each}

-- each entry of the log stands below the position
abbrev pub AreBelow : ℕ → List Logged → Type 0
AreBelow at log = Each (λ (l : Logged). l.at < at) log

-- so does each entry that a core's seat brought
abbrev pub IsTurnBelow : ℕ → Turn → Type 0
IsTurnBelow at turn.Idle = Unit {0}
IsTurnBelow at turn.Out = Unit {0}
IsTurnBelow at (turn.Done own) = AreBelow at own

-- and each entry that the seat drew or merged
abbrev pub IsRoleBelow : ℕ → List Logged → Role → Type 0
IsRoleBelow at own (role.Opening merged turns) = (length merged ≤ at) × Each (IsTurnBelow at) turns
IsRoleBelow at own (role.Core c none_due) = AreBelow at own
IsRoleBelow at own role.Spent = Unit {0}

-- the position is above all that the seat drew, merged, got back or holds, not below its notes, and below the limit
pub record IsAbove (v : View) (at : ℕ) : Type 0 where
  pub role : IsRoleBelow at v.own v.role
  pub logs : Each (λ x. AreBelow at x.state.log) v.held
  pub notes : Each (λ x. x.at ≤ at) v.notes
  pub limit : at < v.plan.limit
