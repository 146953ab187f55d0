-- The attempt of a core: what it needs, and what comes of it.
use Rattle.std.specs.Prelude.{◌≡◌, ◌↔◌, ℕ, ◌⊎◌, true, List, [], ◌∷◌, ◌++◌, map, length, IsTrue, IsFalse, IsSomeAnd}
use Rattle.std.specs.Prelude.{Option, Some, None}
use Rattle.policy_tree.specs.Meaning.{Meaning}
use Rattle.round_model.specs.declared.entry.Entry.{Entry}
use Rattle.round_model.specs.declared.entry.Entry.TheVariants as entry
use Rattle.round_model.specs.declared.plan.Plan.{Plan}
use Rattle.round_model.specs.After.{after}
use Rattle.round_model.specs.Attempts.{attempt_with, present_values}
use Rattle.round_model.specs.Choices.{may_steal}
use Rattle.round_model.specs.Cores.{Cores}
use Rattle.round_model.specs.Legal.{Legal}
use Rattle.round_model.specs.Scenes.{has_attempted, has_worked}
use Rattle.core_state.specs.declared.logged.Logged.{Logged}
use Rattle.core_state.specs.Logs.{logged}
use Rattle.core_table.specs.declared.views.Note.{Note}
use Rattle.core_table.specs.declared.views.Role.TheVariants as role
use Rattle.core_table.specs.declared.views.View.{View}
use Rattle.core_table.specs.Above.{IsAbove}
use Rattle.core_table.specs.Told.{Agrees, IsSeatOf}
use Rattle.core_table.specs.Views.{meaning_in}
use Rattle.select_phase.specs.declared.looks.Look.{Look}
use Rattle.select_phase.specs.Seen.{Looked}
use Rattle.steal_phase.specs.declared.outcome.Outcome.{Outcome}
use Rattle.steal_phase.specs.declared.outcome.Outcome.TheVariants as outcome

-- the core's own entries of the open round
abbrev pub own_entries_in : View → List Entry
own_entries_in v = map (λ (l : Logged). l.entry) v.own

-- the core may look at all cores: it has run its unit, has made no attempt in the round, and holds nothing
pub record MayLook (v : View) (core : ℕ) : Type 0 where
  pub of_core : IsSeatOf v core
  pub worked : IsTrue (has_worked (own_entries_in v))
  pub first : IsFalse (has_attempted (own_entries_in v))
  pub free : v.held ≡ []

-- by this look the core may make its attempt: it may still look, and the look is its own, of the open round
pub record MayAttempt (v : View) (look : Look) : Type 0 where
  pub ready : MayLook v look.by
  pub looked : Looked v look

-- the core that was chosen. Where none was, this is of no account
abbrev pub victim_in : Option ℕ → ℕ
victim_in None = 0
victim_in (Some core) = core

-- the entry of an attempt that came to this
abbrev pub entry_of : Look → Outcome → Entry
entry_of look (outcome.Stole at threads) = entry.Steal look.by (victim_in look.choice) threads look.reads
entry_of look (outcome.Failed at) = entry.Fail look.by (victim_in look.choice) look.reads
entry_of look (outcome.Passed at) = entry.Pass look.by look.reads

abbrev pub position_of : Outcome → ℕ
position_of (outcome.Stole at threads) = at
position_of (outcome.Failed at) = at
position_of (outcome.Passed at) = at

-- the seat of the core has that entry more, holds nothing, and keeps its notes, and a mark that it has
pub record HasAdded (core at : ℕ) (e : Entry) (before now : View) : Type 0 where
  pub own : now.own ≡ before.own ++ logged at e ∷ []
  pub free : now.held ≡ []
  pub of_core : IsSeatOf now core
  pub marked : before.role ≡ role.Core core true → now.role ≡ role.Core core true
  pub more : List Note
  pub notes : now.notes ≡ more ++ before.notes
  pub rest : now ≡ record before { role = now.role; own = now.own; notes = now.notes; held = now.held }

-- the entry stands at that position. It is legal behind the history before it, with which the view agreed
pub record IsNext (at : ℕ) (e : Entry) (v : View) : Type 0 where
  pub history : List Entry
  pub agrees : Agrees v history
  pub position : length history ≡ at
  pub legal : Legal (meaning_in v) v.plan (history ++ e ∷ [])
  pub above : IsAbove v at

-- it is the model's attempt by the look, on the cores that the history before it leaves
pub record IsDrawn (look : Look) (at : ℕ) (e : Entry) (v : View) : Type 0 where
  pub next : IsNext at e v
  pub attempt : e ≡ attempt_with (meaning_in v) v.plan (after (meaning_in v) v.plan next.history)
      look.by look.reads look.choice

-- nothing can be taken of the core v: the filter doesn't hold of both as they are, or nothing is queued there
abbrev pub TakesNothing : Meaning → Plan → Cores → (a v : ℕ) → Type 0
TakesNothing p plan m a v =
    IsFalse (may_steal p (present_values plan m a) (present_values plan m v)) ⊎ ((m v).queue ≡ [])

abbrev pub IsPassed : Outcome → Type 0
IsPassed (outcome.Stole at threads) = ⊥
IsPassed (outcome.Failed at) = ⊥
IsPassed (outcome.Passed at) = Unit {0}

abbrev pub IsFailed : Outcome → Type 0
IsFailed (outcome.Stole at threads) = ⊥
IsFailed (outcome.Failed at) = Unit {0}
IsFailed (outcome.Passed at) = ⊥

-- the attempt came to this: it passes exactly where there is no choice, and fails exactly where there is one of which
-- nothing can be taken at its position
pub record Attempted (look : Look) (outcome : Outcome) (v : View) : Type 0 where
  pub drawn : IsDrawn look (position_of outcome) (entry_of look outcome) v
  pub passed : IsPassed outcome ↔ (look.choice ≡ None)
  pub failed : IsFailed outcome
      ↔ IsSomeAnd look.choice
      (TakesNothing (meaning_in v) v.plan (after (meaning_in v) v.plan drawn.next.history) look.by)
