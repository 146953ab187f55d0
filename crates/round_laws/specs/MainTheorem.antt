-- The main theorem: a policy that meets its obligations wastes no core in still rounds, whatever the interleaving.
use Rattle.std.specs.Prelude.{ℕ, ◌≤◌, List, length, take}
use Rattle.policy_tree.specs.Meaning.{Meaning}
use Rattle.policy_eval.specs.Obligations.{MeetsObligations}
use Rattle.round_model.specs.declared.entry.Entry.{Entry}
use Rattle.round_model.specs.declared.plan.Plan.{Plan}
use Rattle.round_model.specs.FailsExplained.{FailsExplained}
use Rattle.round_model.specs.Fits.{Fits}
use Rattle.round_model.specs.Legal.{Legal}
use Rattle.round_model.specs.OnePlace.{OnePlace}
use Rattle.round_model.specs.StillRounds.{StillRounds}
use Rattle.round_laws.specs.Rest.{ComesToRest}

-- The laws of every interleaving, of one history.
pub record KeepsLaws (p : Meaning) (plan : Plan) (history : List Entry) : Type 0 where
  -- after each of its entries every thread stands where the history says
  pub one_place : (k : ℕ) → k ≤ length history → OnePlace p plan (take k history)
  -- each failed steal follows a change of its thief or victim in its round
  pub fails_explained : FailsExplained p plan history
  -- bad rounds are paid for by steals, and no core is idle beside an overloaded one N rounds after the first or later,
  -- for each N with 2 N at least the first spread
  pub still_rounds : StillRounds p plan history
  -- and rounds in which some core could steal from another are paid for so too: then the cores are at rest, and stay so
  pub rest : ComesToRest p plan history

-- Under the policy every legal history of every plan that fits it keeps them.
abbrev pub WastesNoCore : Meaning → Type 0
WastesNoCore p = (plan : Plan) (history : List Entry) → Fits p plan → Legal p plan history → KeepsLaws p plan history

-- the theorem
abbrev pub MainTheorem : Type 0
MainTheorem = (p : Meaning) → MeetsObligations p → WastesNoCore p
