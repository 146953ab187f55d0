use Rattle.std.proofs.Common.{◌≡◌, ◌⊎◌, ⊎_elim, subst, sym}
use Rattle.fair_policy.specs.Fair.{fair_meaning}
use Rattle.fair_policy.proofs.FairMeets.{fair_handlers_meet}
use Rattle.policy_eval.specs.Obligations.{MeetsHandlerObligations}
use Rattle.policy_tree.specs.Meaning.{meaning_of}
use Rattle.model_tests.specs.Policies.{basic, in_batches}
use Rattle.model_tests.proofs.BatchPolicies.{batched_handlers}
use Rattle.model_tests.proofs.PolicyRows.{basic_handlers}
use Rattle.turn_tests.proofs.turns.come_to.Goals as goal

pub plan_comes_to-requires-clause-handlers : goal.plan_comes_to-requires-clause-handlers
plan_comes_to-requires-clause-handlers g c =
    let p = meaning_of c.args.policy.now in ⊎_elim
    (λ (is : p ≡ basic). subst MeetsHandlerObligations (sym is) basic_handlers)
    (λ (other : (p ≡ fair_meaning) ⊎ (p ≡ in_batches 8)). ⊎_elim (λ (is : p ≡ fair_meaning). subst MeetsHandlerObligations (sym is) fair_handlers_meet) (λ (is : p ≡ in_batches 8). subst MeetsHandlerObligations (sym is) (batched_handlers 8)) other)
    c.requires
