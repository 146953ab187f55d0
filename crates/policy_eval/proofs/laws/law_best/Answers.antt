use Rattle.policy_eval.proofs.Best.{best_law}
use Rattle.policy_eval.proofs.laws.law_best.Goals as goal

pub returns : goal.returns
returns c = best_law
