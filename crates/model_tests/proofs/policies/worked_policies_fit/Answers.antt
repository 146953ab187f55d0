use Rattle.model_tests.proofs.PolicyRows.{worked_policies_fit}
use Rattle.model_tests.proofs.policies.worked_policies_fit.Goals as goal

pub returns : goal.returns
returns c = worked_policies_fit
