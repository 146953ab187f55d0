use Rattle.row_tests.proofs.Rested.{rest_is_left}
use Rattle.row_tests.proofs.bounds.rest_is_left.Goals as goal

pub returns : goal.returns
returns c = rest_is_left
