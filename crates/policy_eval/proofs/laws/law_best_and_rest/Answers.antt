use Rattle.policy_eval.proofs.Best.{best_and_rest_law}
use Rattle.policy_eval.proofs.laws.law_best_and_rest.Goals as goal

pub returns : goal.returns
returns c = best_and_rest_law
