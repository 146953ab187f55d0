use Rattle.model_tests.proofs.MissingRows.{two_cores_misses}
use Rattle.model_tests.proofs.legal.two_cores_misses.Goals as goal

pub returns : goal.returns
returns c = two_cores_misses
