-- A bad round is restless, since an idle core may steal from every overloaded one. So a bad and still round has a steal.
use Rattle.std.proofs.Common.{ℕ, List, take}
use Rattle.policy_tree.specs.Meaning.{Meaning}
use Rattle.policy_eval.specs.Obligations.{MeetsObligations}
use Rattle.policy_eval.proofs.Statements.{balance_obligations}
use Rattle.round_model.specs.declared.entry.Entry.{Entry}
use Rattle.round_model.specs.declared.plan.Plan.{Plan}
use Rattle.round_model.specs.Fits.{Fits}
use Rattle.round_model.specs.Legal.{Legal}
use Rattle.round_model.specs.Rounds.{IsBad, IsStill}
use Rattle.round_model.specs.StillRounds.{BesideAt, StealsIn}
use Rattle.round_model.proofs.Grows.{legal_prefix}
use Rattle.round_laws.specs.Rest.{IsRestless, RestlessAt}
use Rattle.round_laws.proofs.MoveObligations.{move_obligations}
use Rattle.round_laws.proofs.Restless.{beside_restless}
use Rattle.round_laws.proofs.RestlessRounds.{restless_round_steals}

module _ (p : Meaning) (plan : Plan) (h : List Entry) (fits : Fits p plan) (meets : MeetsObligations p) (legal : Legal p plan h) where
  -- where a core is idle beside an overloaded one, it may steal from it
  pub restless_at : (k : ℕ) → BesideAt p plan h k → RestlessAt p plan h k
  restless_at k beside = beside_restless p plan fits (move_obligations p meets) (take k h) (legal_prefix p plan h k legal) (balance_obligations p meets).idle_sees_overloaded beside

  pub bad_is_restless : (n : ℕ) → IsBad p plan h n → IsRestless p plan h n
  bad_is_restless n bad = record { position = bad.position; begins = bad.begins; complete = bad.complete; restless = restless_at bad.position bad.beside }

  -- a bad and still round has a steal
  pub bad_round_steals : (n : ℕ) → IsBad p plan h n → IsStill h n n → StealsIn p plan h n
  bad_round_steals n bad still = restless_round_steals p plan h fits (move_obligations p meets) legal n (bad_is_restless n bad) still
