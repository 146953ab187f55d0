use Rattle.std.proofs.Common.{sym, subst}
use Rattle.policy_eval.specs.Obligations.{MeetsHandlerObligations}
use Rattle.round_model.specs.Limits.{IsWithinLimits}
use Rattle.model_tests.proofs.PolicyRows.{basic_handlers, two_cores_within}
use Rattle.runtime_tests.proofs.tables.opened.Goals as goal

pub open-requires-clause-handlers : goal.open-requires-clause-handlers
open-requires-clause-handlers c = subst MeetsHandlerObligations (sym c.requires.policy) basic_handlers

pub open-requires-clause-limits : goal.open-requires-clause-limits
open-requires-clause-limits c = subst IsWithinLimits (sym c.requires.plan) two_cores_within
