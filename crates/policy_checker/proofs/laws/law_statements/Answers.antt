use Rattle.policy_checker.proofs.True.{statements_are_true}
use Rattle.policy_checker.proofs.laws.law_statements.Goals as goal

pub returns : goal.returns
returns c = statements_are_true
