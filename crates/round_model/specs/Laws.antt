-- What the definitions are meant to give, as laws over all policies, plans and histories.
use Rattle.std.specs.Prelude.{◌≡◌, ℕ, List, [], ◌∷◌, ◌++◌, take, IsFalse, IsTrue, ◌↔◌, Some, Contains}
use mathlib.Core.Option.{some}
use lib.ListN.{get_elem?}
use Rattle.policy_tree.specs.Meaning.{Meaning}
use Rattle.round_model.specs.declared.entry.Entry.{Entry}
use Rattle.round_model.specs.declared.entry.Entry.TheVariants as entry
use Rattle.round_model.specs.declared.plan.Plan.{Plan}
use Rattle.round_model.specs.declared.plan.Planned.{Planned}
use Rattle.round_model.specs.After.{after, moved, round_of}
use Rattle.round_model.specs.Bounds.{IsInBounds}
use Rattle.round_model.specs.Cores.{consts_of, opening_state}
use Rattle.round_model.specs.Entries.{acting_core, acts, touches}
use Rattle.round_model.specs.Fits.{Fits}
use Rattle.round_model.specs.Legal.{Legal, LegalNext}

-- the state after a longer history: what its last entry makes of the state before it, in the open round
abbrev pub OneMoreLaw : Type 0
OneMoreLaw = (p : Meaning) (plan : Plan) (history : List Entry) (e : Entry)
    → after p plan (history ++ e ∷ []) ≡ moved p plan (round_of history) e (after p plan history)

-- an entry leaves the cores that it doesn't touch
abbrev pub UntouchedLaw : Type 0
UntouchedLaw = (p : Meaning) (plan : Plan) (history : List Entry) (e : Entry) (c : ℕ) → IsFalse (touches c e)
    → after p plan (history ++ e ∷ []) c ≡ after p plan history c

-- a legal history with an entry more is legal exactly where that entry is legal next
pub record LegalGrows : Type 0 where
  pub grows : (p : Meaning) (plan : Plan) (history : List Entry) (e : Entry) → Legal p plan history →
      LegalNext p plan history e → Legal p plan (history ++ e ∷ [])
  pub last : (p : Meaning) (plan : Plan) (history : List Entry) (e : Entry) →
      Legal p plan (history ++ e ∷ []) → LegalNext p plan history e

-- the first entries of a legal history are a legal history
abbrev pub PrefixLaw : Type 0
PrefixLaw = (p : Meaning) (plan : Plan) (history : List Entry) (n : ℕ) → Legal p plan history →
    Legal p plan (take n history)

-- no entry changes the constants of a core
abbrev pub ConstantsLaw : Type 0
ConstantsLaw = (p : Meaning) (plan : Plan) (history : List Entry) (c : ℕ) →
    (after p plan history c).consts ≡ consts_of plan c

-- the opening state is in bounds, with no thread
abbrev pub OpeningLaw : Type 0
OpeningLaw = (p : Meaning) (plan : Plan) → Fits p plan → IsInBounds p plan 0 (opening_state plan)

-- a core acts in an entry exactly where it is the acting core
abbrev pub ActingLaw : Type 0
ActingLaw = (c : ℕ) (e : Entry) → IsTrue (acts c e) ↔ (acting_core e ≡ Some c)

-- the thread of an Enter is one of the plan, and enters by its planned core in its planned round
pub record EntersAsPlanned (plan : Plan) (round thread by : ℕ) : Type 0 where
  pub planned : Planned
  pub of_plan : Contains plan.threads planned
  pub id : planned.id ≡ thread
  pub core : planned.core ≡ by
  pub in_round : planned.round ≡ round

-- so it is in every legal history
abbrev pub EnteringLaw : Type 0
EnteringLaw = (p : Meaning) (plan : Plan) (history : List Entry) (k thread by at : ℕ) (reads : List ℕ)
    → Legal p plan history → get_elem? history k ≡ some (entry.Enter thread by at reads)
    → EntersAsPlanned plan (round_of (take k history)) thread by
