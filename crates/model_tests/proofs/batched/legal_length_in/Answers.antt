use Rattle.std.proofs.Common.{sym, subst}
use Rattle.policy_tree.specs.Meaning.{Meaning, meaning_of}
use Rattle.policy_eval.specs.Obligations.{MeetsHandlerObligations}
use Rattle.round_model.specs.declared.plan.Plan.{Plan}
use Rattle.round_model.specs.Fits.{Fits}
use Rattle.round_model.specs.Limits.{IsWithinLimits}
use Rattle.model_tests.specs.Batched.{plan_in, policy_in}
use Rattle.model_tests.specs.Steps.{IsLegalLength}
use Rattle.model_tests.proofs.BatchPolicies.{batch_fits, batch_handlers, batch_within}
use Rattle.model_tests.proofs.batched.legal_length_in.Goals as goal

pub legal_length-requires-clause-fits : goal.legal_length-requires-clause-fits
legal_length-requires-clause-fits c =
    subst (λ (p : Meaning). Fits p c.in_ok-plan.plan) (sym c.in_ok-policy.ensures)
    (subst (Fits (policy_in c.args.row c.args.limit)) (sym c.in_ok-plan.ensures) (batch_fits c.args.row c.args.limit c.requires.some c.requires.few))

pub legal_length-requires-clause-limits : goal.legal_length-requires-clause-limits
legal_length-requires-clause-limits c = subst IsWithinLimits (sym c.in_ok-plan.ensures) (batch_within c.args.row)

pub legal_length-requires-clause-handlers : goal.legal_length-requires-clause-handlers
legal_length-requires-clause-handlers c = subst MeetsHandlerObligations (sym c.in_ok-policy.ensures) (batch_handlers c.args.row c.args.limit)

pub returns : goal.returns
returns c =
    subst (λ (p : Meaning). IsLegalLength p (plan_in c.args.row) c.args.entries.now c.in_ok-count.count) c.in_ok-policy.ensures
    (subst (λ (plan : Plan). IsLegalLength (meaning_of c.in_ok-policy.policy) plan c.args.entries.now c.in_ok-count.count) c.in_ok-plan.ensures c.in_ok-count.ensures)
