use Rattle.row_tests.proofs.Rested.{chain_takes_four}
use Rattle.row_tests.proofs.bounds.chain_takes_four.Goals as goal

pub returns : goal.returns
returns c = chain_takes_four
