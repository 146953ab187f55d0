use Rattle.std.proofs.Common.{sym, subst}
use Rattle.policy_tree.specs.Meaning.{Meaning, meaning_of}
use Rattle.policy_eval.specs.Obligations.{MeetsHandlerObligations}
use Rattle.round_model.specs.declared.plan.Plan.{Plan}
use Rattle.round_model.specs.Fits.{Fits}
use Rattle.round_model.specs.Limits.{IsWithinLimits}
use Rattle.model_tests.specs.Policies.{basic}
use Rattle.model_tests.specs.Plans.{two_cores}
use Rattle.model_tests.specs.Steps.{IsLegalLength}
use Rattle.model_tests.proofs.PolicyRows.{basic_handlers, two_cores_fit, two_cores_within}
use Rattle.model_tests.proofs.steps.legal_length_of_two.Goals as goal

pub legal_length-requires-clause-fits : goal.legal_length-requires-clause-fits
legal_length-requires-clause-fits c =
    subst (λ (p : Meaning). Fits p c.args.plan.now) (sym c.requires.policy) (subst (Fits basic) (sym c.requires.plan) two_cores_fit)

pub legal_length-requires-clause-limits : goal.legal_length-requires-clause-limits
legal_length-requires-clause-limits c = subst IsWithinLimits (sym c.requires.plan) two_cores_within

pub legal_length-requires-clause-handlers : goal.legal_length-requires-clause-handlers
legal_length-requires-clause-handlers c = subst MeetsHandlerObligations (sym c.requires.policy) basic_handlers

pub returns : goal.returns
returns c =
    subst (λ (p : Meaning). IsLegalLength p two_cores c.args.entries.now c.in_ok-count.count) c.requires.policy
    (subst (λ (plan : Plan). IsLegalLength (meaning_of c.args.policy.now) plan c.args.entries.now c.in_ok-count.count) c.requires.plan c.in_ok-count.ensures)
