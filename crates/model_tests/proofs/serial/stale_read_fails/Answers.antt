use Rattle.model_tests.proofs.SerialRows.{stale_read_fails}
use Rattle.model_tests.proofs.serial.stale_read_fails.Goals as goal

pub returns : goal.returns
returns c = stale_read_fails
