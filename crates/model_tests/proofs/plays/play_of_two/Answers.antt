use Rattle.std.proofs.Common.{sym, subst}
use Rattle.policy_tree.specs.Meaning.{Meaning, meaning_of}
use Rattle.policy_eval.specs.Obligations.{MeetsHandlerObligations}
use Rattle.round_model.specs.declared.plan.Plan.{Plan}
use Rattle.round_model.specs.Fits.{Fits}
use Rattle.round_model.specs.Limits.{IsWithinLimits}
use Rattle.serial_steps.specs.SerialEnds.{IsPlayed}
use Rattle.model_tests.specs.Policies.{basic}
use Rattle.model_tests.specs.Plans.{two_cores}
use Rattle.model_tests.proofs.PolicyRows.{basic_handlers, two_cores_fit, two_cores_within}
use Rattle.model_tests.proofs.plays.play_of_two.Goals as goal

pub play_rounds-requires-clause-fits : goal.play_rounds-requires-clause-fits
play_rounds-requires-clause-fits c =
    subst (λ (p : Meaning). Fits p c.args.plan.now) (sym c.requires.policy) (subst (Fits basic) (sym c.requires.plan) two_cores_fit)

pub play_rounds-requires-clause-limits : goal.play_rounds-requires-clause-limits
play_rounds-requires-clause-limits c = subst IsWithinLimits (sym c.requires.plan) two_cores_within

pub play_rounds-requires-clause-handlers : goal.play_rounds-requires-clause-handlers
play_rounds-requires-clause-handlers c = subst MeetsHandlerObligations (sym c.requires.policy) basic_handlers

pub returns : goal.returns
returns c =
    subst (λ (p : Meaning). IsPlayed p two_cores c.in_ok-played.played) c.requires.policy
    (subst (λ (plan : Plan). IsPlayed (meaning_of c.args.policy.now) plan c.in_ok-played.played) c.requires.plan c.in_ok-played.ensures)
