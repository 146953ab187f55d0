use Rattle.model_tests.proofs.PolicyRows.{policy_misses}
use Rattle.model_tests.proofs.policies.policy_misses.Goals as goal

pub returns : goal.returns
returns c = policy_misses
