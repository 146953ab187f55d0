use Rattle.row_tests.proofs.BoundMet.{mended_misses}
use Rattle.row_tests.proofs.bounds.mended_misses.Goals as goal

pub returns : goal.returns
returns c = mended_misses
