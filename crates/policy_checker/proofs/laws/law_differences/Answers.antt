use Rattle.policy_checker.proofs.Decided.{differences_are_decided}
use Rattle.policy_checker.proofs.laws.law_differences.Goals as goal

pub returns : goal.returns
returns c = differences_are_decided
