use Rattle.policy_eval.specs.Sights.{move_values}
use Rattle.policy_eval.proofs.env.Env.of_move.Goals as goal

pub returns : goal.returns
unfolding move_values
returns c = c.assigned.ensures
