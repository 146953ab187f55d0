use Rattle.row_tests.proofs.Rested.{rest_bound_met}
use Rattle.row_tests.proofs.bounds.rest_bound_met.Goals as goal

pub returns : goal.returns
returns c = rest_bound_met
