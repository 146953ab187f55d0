use Rattle.std.proofs.Common.{sym, subst}
use Rattle.policy_tree.specs.Meaning.{Meaning, meaning_of}
use Rattle.policy_eval.specs.Obligations.{MeetsHandlerObligations}
use Rattle.round_model.specs.declared.plan.Plan.{Plan}
use Rattle.round_model.specs.Fits.{Fits}
use Rattle.round_model.specs.Limits.{IsWithinLimits}
use Rattle.serial_steps.specs.SerialEnds.{IsPlayed}
use Rattle.model_tests.specs.Batched.{plan_in, policy_in}
use Rattle.model_tests.proofs.BatchPolicies.{batch_fits, batch_handlers, batch_within}
use Rattle.model_tests.proofs.batched.play_in.Goals as goal

pub play_rounds-requires-clause-fits : goal.play_rounds-requires-clause-fits
play_rounds-requires-clause-fits c =
    subst (λ (p : Meaning). Fits p c.in_ok-plan.plan) (sym c.in_ok-policy.ensures)
    (subst (Fits (policy_in c.args.row c.args.limit)) (sym c.in_ok-plan.ensures) (batch_fits c.args.row c.args.limit c.requires.some c.requires.few))

pub play_rounds-requires-clause-limits : goal.play_rounds-requires-clause-limits
play_rounds-requires-clause-limits c = subst IsWithinLimits (sym c.in_ok-plan.ensures) (batch_within c.args.row)

pub play_rounds-requires-clause-handlers : goal.play_rounds-requires-clause-handlers
play_rounds-requires-clause-handlers c = subst MeetsHandlerObligations (sym c.in_ok-policy.ensures) (batch_handlers c.args.row c.args.limit)

pub returns : goal.returns
returns c =
    subst (λ (p : Meaning). IsPlayed p (plan_in c.args.row) c.in_ok-played.played) c.in_ok-policy.ensures
    (subst (λ (plan : Plan). IsPlayed (meaning_of c.in_ok-policy.policy) plan c.in_ok-played.played) c.in_ok-plan.ensures c.in_ok-played.ensures)
