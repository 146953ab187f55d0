use Rattle.policy_eval.proofs.Best.{rest_law}
use Rattle.policy_eval.proofs.laws.law_rest.Goals as goal

pub returns : goal.returns
returns c = rest_law
