use Rattle.row_tests.proofs.Stirred.{needs_stillness}
use Rattle.row_tests.proofs.bounds.law_needs_stillness.Goals as goal

pub returns : goal.returns
returns c = needs_stillness
