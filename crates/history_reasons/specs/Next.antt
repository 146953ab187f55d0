-- The entries that may come next.
use Rattle.std.specs.Prelude.{◌≡◌, ◌≢◌, ℕ, ◌+◌, ◌<◌, List, Some, All, AllPairs, Any, IsFalse, IsSomeAnd}
use Rattle.policy_tree.specs.Meaning.{Meaning}
use Rattle.round_model.specs.declared.entry.Entry.{Entry}
use Rattle.round_model.specs.declared.entry.Entry.TheVariants as entry
use Rattle.round_model.specs.declared.plan.Plan.{Plan}
use Rattle.round_model.specs.Entries.{acting_core}
use Rattle.round_model.specs.Legal.{IsComplete, IsDue, LegalNext, rounds_begun}
use Rattle.round_model.specs.Scenes.{has_attempted, own_entries}

-- a round is open, and the core hasn't made its attempt of it
pub record HasTurn (plan : Plan) (history : List Entry) (a : ℕ) : Type 0 where
  pub begun : 0 < rounds_begun history
  pub there : a < plan.cores
  pub left : IsFalse (has_attempted (own_entries history a))

-- no two of them are of the same core, and at most one is of none
abbrev pub AreApart : List Entry → Type 0
AreApart next = AllPairs (λ e f. acting_core e ≢ acting_core f) next

-- each of them is legal next, each core whose turn it is has just one, and so has the next round where it is due
pub record AreNext (p : Meaning) (plan : Plan) (history : List Entry) (next : List Entry) : Type 0 where
  pub legal : All (LegalNext p plan history) next
  pub each : (a : ℕ) → HasTurn plan history a → Any (λ e. acting_core e ≡ Some a) next
  pub round : IsComplete plan history → IsDue plan history
      → Any (λ e. e ≡ entry.Round (rounds_begun history + 1)) next
  pub once : AreApart next

-- each of them is legal next and of one of the first cores, of which each whose turn it is has just one
pub record HaveTurns (p : Meaning) (plan : Plan) (history : List Entry) (cores : ℕ) (next : List Entry) : Type 0 where
  pub legal : All (LegalNext p plan history) next
  pub of_them : All (λ e. IsSomeAnd (acting_core e) (λ a. a < cores)) next
  pub each : (a : ℕ) → a < cores → HasTurn plan history a → Any (λ e. acting_core e ≡ Some a) next
  pub once : AreApart next
