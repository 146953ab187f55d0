use Rattle.std.proofs.Common.{◌≡◌, ⊎_elim, subst, sym}
use Rattle.fair_policy.specs.Fair.{fair_meaning}
use Rattle.fair_policy.proofs.FairMeets.{fair_handlers_meet}
use Rattle.policy_eval.specs.Obligations.{MeetsHandlerObligations}
use Rattle.policy_tree.specs.Meaning.{meaning_of}
use Rattle.model_tests.specs.Policies.{basic}
use Rattle.model_tests.proofs.PolicyRows.{basic_handlers}
use Rattle.turn_tests.proofs.agreeing.of_number.Goals as goal

pub of_plan-requires-clause-handlers : goal.of_plan-requires-clause-handlers
of_plan-requires-clause-handlers g c =
    let p = meaning_of c.args.policy.now in ⊎_elim
    (λ (is : p ≡ basic). subst MeetsHandlerObligations (sym is) basic_handlers)
    (λ (is : p ≡ fair_meaning). subst MeetsHandlerObligations (sym is) fair_handlers_meet)
    c.requires
