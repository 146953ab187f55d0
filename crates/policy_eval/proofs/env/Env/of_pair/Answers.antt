use Rattle.policy_eval.specs.Sights.{pair_values}
use Rattle.policy_eval.proofs.env.Env.of_pair.Goals as goal

pub returns : goal.returns
unfolding pair_values
returns c = c.assigned.ensures
