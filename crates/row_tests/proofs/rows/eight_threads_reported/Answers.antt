use Rattle.row_tests.proofs.Reported.{eight_threads_reported}
use Rattle.row_tests.proofs.rows.eight_threads_reported.Goals as goal

pub returns : goal.returns
returns c = eight_threads_reported
