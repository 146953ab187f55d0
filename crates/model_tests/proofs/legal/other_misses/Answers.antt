use Rattle.model_tests.proofs.MissingRows.{other_misses}
use Rattle.model_tests.proofs.legal.other_misses.Goals as goal

pub returns : goal.returns
returns c = other_misses
