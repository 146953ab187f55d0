use Rattle.row_tests.proofs.Reported.{stale_read_reported}
use Rattle.row_tests.proofs.rows.stale_read_reported.Goals as goal

pub returns : goal.returns
returns c = stale_read_reported
