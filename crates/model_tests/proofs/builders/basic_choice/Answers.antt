use Rattle.std.proofs.Common.{sym, subst}
use Rattle.policy_eval.specs.Resolved.{IsResolved}
use Rattle.model_tests.proofs.ResolvedRows.{basic_resolved}
use Rattle.model_tests.proofs.builders.basic_choice.Goals as goal

pub choice-requires-clause-policy : goal.choice-requires-clause-policy
choice-requires-clause-policy c = subst IsResolved (sym c.requires.policy) basic_resolved
