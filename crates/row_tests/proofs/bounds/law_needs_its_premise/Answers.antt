use Rattle.row_tests.proofs.TakenLast.{needs_its_premise}
use Rattle.row_tests.proofs.bounds.law_needs_its_premise.Goals as goal

pub returns : goal.returns
returns c = needs_its_premise
