use Rattle.policy_eval.specs.Sights.{thread_values}
use Rattle.policy_eval.proofs.env.Env.of_thread.Goals as goal

pub returns : goal.returns
unfolding thread_values
returns c = c.assigned.ensures
