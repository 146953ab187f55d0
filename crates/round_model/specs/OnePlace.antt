-- The law of one place: each thread stands in one place, and every number stays in range.
use Rattle.std.specs.Prelude.{ℕ, ◌≤◌, List, length, take}
use Rattle.policy_tree.specs.Meaning.{Meaning}
use Rattle.policy_eval.specs.Obligations.{MeetsHandlerObligations}
use Rattle.round_model.specs.declared.entry.Entry.{Entry}
use Rattle.round_model.specs.declared.plan.Plan.{Plan}
use Rattle.round_model.specs.After.{after}
use Rattle.round_model.specs.Bounds.{IsInBounds}
use Rattle.round_model.specs.Fits.{Fits}
use Rattle.round_model.specs.Legal.{Legal}
use Rattle.round_model.specs.Phases.{Stands, blocked_places_of, phase_of, places_of}

-- after the history every thread stands where its phase says, and all numbers lie in their ranges
pub record OnePlace (p : Meaning) (plan : Plan) (history : List Entry) : Type 0 where
  pub places : (id : ℕ) →
      let m = after p plan history in Stands (phase_of id history) (places_of plan m id) (blocked_places_of plan m id)
  pub bounds : IsInBounds p plan (length plan.threads) (after p plan history)

-- the law
abbrev pub OnePlaceLaw : Type 0
OnePlaceLaw = (p : Meaning) (plan : Plan) (history : List Entry) → Fits p plan → MeetsHandlerObligations p
    → Legal p plan history
    → (k : ℕ) → k ≤ length history → OnePlace p plan (take k history)
