-- How far a list of entries is a legal history.
use Rattle.std.specs.Prelude.{◌≡◌, ℕ, ◌≤◌, List, length, take, Some, slice_get}
use Rattle.policy_tree.specs.Meaning.{Meaning}
use Rattle.round_model.specs.declared.entry.Entry.{Entry}
use Rattle.round_model.specs.declared.plan.Plan.{Plan}
use Rattle.round_model.specs.Legal.{Legal, LegalNext}

-- so many of the entries are a legal history, and the entry behind them, where there is one, isn't legal next
pub record IsLegalLength (p : Meaning) (plan : Plan) (entries : List Entry) (n : ℕ) : Type 0 where
  pub within : n ≤ length entries
  pub legal : Legal p plan (take n entries)
  pub stops : (e : Entry) → slice_get entries n ≡ Some e → ¬ LegalNext p plan (take n entries) e
