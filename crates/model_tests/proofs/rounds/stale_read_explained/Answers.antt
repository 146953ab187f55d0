use Rattle.model_tests.proofs.RoundRows.{stale_read_explained}
use Rattle.model_tests.proofs.rounds.stale_read_explained.Goals as goal

pub returns : goal.returns
returns c = stale_read_explained
