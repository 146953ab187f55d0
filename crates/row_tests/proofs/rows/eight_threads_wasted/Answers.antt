use Rattle.row_tests.proofs.Wasted.{eight_threads_wasted}
use Rattle.row_tests.proofs.rows.eight_threads_wasted.Goals as goal

pub returns : goal.returns
returns c = eight_threads_wasted
