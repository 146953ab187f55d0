use Rattle.row_tests.proofs.BoundMet.{no_round_less}
use Rattle.row_tests.proofs.bounds.no_round_less.Goals as goal

pub returns : goal.returns
returns c = no_round_less
