use Rattle.std.proofs.Common.{[], sym, subst}
use Rattle.round_model.specs.declared.plan.Plan.{Plan}
use Rattle.round_model.specs.Fits.{Fits}
use Rattle.round_model.specs.Limits.{IsWithinLimits}
use Rattle.round_judge.specs.Past.{IsPastOf, StandsFor}
use Rattle.model_tests.specs.Policies.{basic}
use Rattle.model_tests.proofs.PolicyRows.{two_cores_fit, two_cores_within}
use Rattle.model_tests.proofs.plans.no_past.Goals as goal

pub new-requires-clause-limits : goal.new-requires-clause-limits
new-requires-clause-limits c = subst IsWithinLimits (sym c.requires) two_cores_within

pub returns-clause-stands : goal.returns-clause-stands
returns-clause-stands c = subst (λ (plan : Plan). StandsFor basic plan c.in_ok-past.past []) c.requires (c.in_ok-past.ensures.stands basic)

pub returns-clause-belongs : goal.returns-clause-belongs
returns-clause-belongs c =
    subst (λ (plan : Plan). IsPastOf basic plan c.in_ok-past.past) c.requires (c.in_ok-past.ensures.belongs basic (subst (Fits basic) (sym c.requires) two_cores_fit))
