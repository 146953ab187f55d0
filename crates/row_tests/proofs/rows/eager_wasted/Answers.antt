use Rattle.row_tests.proofs.Wasted.{eager_wasted}
use Rattle.row_tests.proofs.rows.eager_wasted.Goals as goal

pub returns : goal.returns
returns c = eager_wasted
