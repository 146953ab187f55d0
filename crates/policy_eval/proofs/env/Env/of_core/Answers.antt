use Rattle.policy_eval.specs.Sights.{core_values}
use Rattle.policy_eval.proofs.env.Env.of_core.Goals as goal

pub returns : goal.returns
unfolding core_values
returns c = c.assigned.ensures
