use Rattle.policy_eval.specs.Sights.{own_values}
use Rattle.policy_eval.proofs.env.Env.of_own.Goals as goal

pub returns : goal.returns
unfolding own_values
returns c = c.assigned.ensures
