-- The law of failed steals: each follows a change of its thief or victim in its round.
use Rattle.std.specs.Prelude.{◌≡◌, ℕ, List, IsTrue}
use mathlib.Core.Option.{some}
use lib.ListN.{get_elem?}
use Rattle.policy_tree.specs.Meaning.{Meaning}
use Rattle.policy_eval.specs.Obligations.{MeetsObligations}
use Rattle.round_model.specs.declared.entry.Entry.{Entry}
use Rattle.round_model.specs.declared.entry.Entry.TheVariants as entry
use Rattle.round_model.specs.declared.plan.Plan.{Plan}
use Rattle.round_model.specs.Kinds.{is_steal}
use Rattle.round_model.specs.Explains.{Explains}
use Rattle.round_model.specs.Fits.{Fits}
use Rattle.round_model.specs.Legal.{Legal}
use Rattle.round_model.specs.Rounds.{IsStill, round_at}

-- some entry of its round explains the Fail at `k`, and in a still round that entry is a Steal
pub record FailExplained (p : Meaning) (plan : Plan) (history : List Entry) (k : ℕ) : Type 0 where
  pub cause : ℕ
  pub causing : Entry
  pub stands : get_elem? history cause ≡ some causing
  pub in_round : round_at history cause ≡ round_at history k
  pub explains : Explains p plan history k cause
  pub steal : IsStill history (round_at history k) (round_at history k) → IsTrue (is_steal causing)

-- each Fail of the history is explained
abbrev pub FailsExplained : Meaning → Plan → List Entry → Type 0
FailsExplained p plan history = (k by from : ℕ) (reads : List ℕ) →
    get_elem? history k ≡ some (entry.Fail by from reads) → FailExplained p plan history k

-- the law
abbrev pub FailedStealsLaw : Type 0
FailedStealsLaw = (p : Meaning) (plan : Plan) (history : List Entry) → Fits p plan → MeetsObligations p →
    Legal p plan history → FailsExplained p plan history
