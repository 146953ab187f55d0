use Rattle.policy_checker.proofs.True.{certified_meet}
use Rattle.policy_checker.proofs.laws.law_certified.Goals as goal

pub returns : goal.returns
returns c = certified_meet
