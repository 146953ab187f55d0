use Rattle.model_tests.proofs.RoundRows.{owed_entries}
use Rattle.model_tests.proofs.rounds.owed_entries.Goals as goal

pub returns : goal.returns
returns c = owed_entries
