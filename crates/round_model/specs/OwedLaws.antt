-- What the entries that cores owe are meant to be.
use Rattle.std.specs.Prelude.{◌≡◌, ◌≢◌, ℕ, ◌+◌, ◌*◌, ◌≤◌, List, [], ◌∷◌, ◌++◌, Contains, Some, count_by, length}
use Rattle.policy_tree.specs.Meaning.{Meaning}
use Rattle.policy_eval.specs.Obligations.{MeetsHandlerObligations}
use Rattle.round_model.specs.declared.entry.Entry.{Entry}
use Rattle.round_model.specs.declared.plan.Plan.{Plan}
use Rattle.round_model.specs.declared.state.Blocked.{Blocked}
use Rattle.round_model.specs.After.{after, round_of}
use Rattle.round_model.specs.Entries.{acting_core}
use Rattle.round_model.specs.Fits.{Fits}
use Rattle.round_model.specs.Legal.{Legal, LegalNext}
use Rattle.round_model.specs.Owed.{owed, owed_total}
use Rattle.round_model.specs.Scenes.{is_due_blocked}

-- the entry is one of those that its core owes, and none that another core owes
pub record IsPaid (p : Meaning) (plan : Plan) (history : List Entry) (e : Entry) (a : ℕ) : Type 0 where
  pub own : owed p plan (history ++ e ∷ []) a + 1 ≡ owed p plan history a
  pub others : (c : ℕ) → c ≢ a → owed p plan (history ++ e ∷ []) c ≡ owed p plan history c

-- so is each legal entry of a core
abbrev pub OwedLaw : Type 0
OwedLaw = (p : Meaning) (plan : Plan) (history : List Entry) (e : Entry) (a : ℕ) → Fits p plan
    → MeetsHandlerObligations p → Legal p plan history → LegalNext p plan history e → acting_core e ≡ Some a
    → IsPaid p plan history e a

-- the entry makes no thread due in its round: each one that is due after it was blocked and due before it
pub record MakesNoneDue (p : Meaning) (plan : Plan) (history : List Entry) (e : Entry) : Type 0 where
  pub was_blocked : (c : ℕ) (b : Blocked) → b.wake ≤ round_of history →
      Contains (after p plan (history ++ e ∷ []) c).blocked b → Contains (after p plan history c).blocked b
  pub no_more : (c : ℕ) → count_by (is_due_blocked (round_of history)) (after p plan (history ++ e ∷ []) c).blocked
      ≤ count_by (is_due_blocked (round_of history)) (after p plan history c).blocked

-- so it is of every entry, since who comes to a core isn't blocked, and who blocks wakes in a later round
abbrev pub NoneFallsDueLaw : Type 0
NoneFallsDueLaw = (p : Meaning) (plan : Plan) (history : List Entry) (e : Entry) → Fits p plan
    → MakesNoneDue p plan history e

-- never more is owed, as a round begins or later, than an entry for each thread of the plan, and a unit and an attempt
-- for each core
abbrev pub OwedBoundLaw : Type 0
OwedBoundLaw = (p : Meaning) (plan : Plan) (history : List Entry) → Fits p plan → MeetsHandlerObligations p
    → Legal p plan history → owed_total p plan history ≤ length plan.threads + 2 * plan.cores
