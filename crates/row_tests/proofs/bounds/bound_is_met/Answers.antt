use Rattle.row_tests.proofs.BoundMet.{bound_is_met}
use Rattle.row_tests.proofs.bounds.bound_is_met.Goals as goal

pub returns : goal.returns
returns c = bound_is_met
