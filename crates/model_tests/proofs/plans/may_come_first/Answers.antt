use Rattle.std.proofs.Common.{sym, subst}
use Rattle.policy_eval.specs.Obligations.{MeetsHandlerObligations}
use Rattle.model_tests.proofs.PolicyRows.{basic_handlers}
use Rattle.model_tests.proofs.plans.may_come_first.Goals as goal

pub step_ok-requires-clause-handlers : goal.step_ok-requires-clause-handlers
step_ok-requires-clause-handlers c = subst MeetsHandlerObligations (sym c.requires.policy) basic_handlers
