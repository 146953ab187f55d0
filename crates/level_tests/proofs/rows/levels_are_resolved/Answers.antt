use Rattle.level_tests.proofs.Resolving.{levels_resolved}
use Rattle.level_tests.proofs.rows.levels_are_resolved.Goals as goal

pub returns : goal.returns
returns c = levels_resolved
