use Rattle.level_tests.proofs.Resolving.{levels_missing}
use Rattle.level_tests.proofs.rows.levels_miss.Goals as goal

pub returns : goal.returns
returns c = levels_missing
