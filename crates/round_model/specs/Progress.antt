-- What a core has yet to do in the open round of a history.
use Rattle.std.specs.Prelude.{ℕ, List, IsFalse, IsNone, IsTrue}
use Rattle.policy_tree.specs.Meaning.{Meaning}
use Rattle.round_model.specs.declared.entry.Entry.{Entry}
use Rattle.round_model.specs.declared.plan.Plan.{Plan}
use Rattle.round_model.specs.After.{after, round_of}
use Rattle.round_model.specs.Scenes.{entering_next, has_attempted, has_worked, own_entries, waking_next}

-- no thread is left that the core is to let in
abbrev pub HasLetIn : Plan → List Entry → ℕ → Type 0
HasLetIn plan history a = IsNone (entering_next plan (round_of history) a (own_entries history a))

-- none is left to wake, and the unit is to come
pub record OwesUnit (p : Meaning) (plan : Plan) (history : List Entry) (a : ℕ) : Type 0 where
  pub woken : IsNone (waking_next (round_of history) (after p plan history a))
  pub first : IsFalse (has_worked (own_entries history a))

-- the unit has come, and the attempt is to come
pub record OwesAttempt (history : List Entry) (a : ℕ) : Type 0 where
  pub worked : IsTrue (has_worked (own_entries history a))
  pub first : IsFalse (has_attempted (own_entries history a))
