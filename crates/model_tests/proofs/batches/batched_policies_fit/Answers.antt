use Rattle.model_tests.proofs.BatchPolicies.{batched_policies_fit}
use Rattle.model_tests.proofs.batches.batched_policies_fit.Goals as goal

pub returns : goal.returns
returns c = batched_policies_fit
