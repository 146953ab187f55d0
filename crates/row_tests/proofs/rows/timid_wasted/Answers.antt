use Rattle.row_tests.proofs.Wasted.{timid_wasted}
use Rattle.row_tests.proofs.rows.timid_wasted.Goals as goal

pub returns : goal.returns
returns c = timid_wasted
