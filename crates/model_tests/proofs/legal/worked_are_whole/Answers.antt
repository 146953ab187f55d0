use Rattle.model_tests.proofs.WholeRows.{worked_are_whole}
use Rattle.model_tests.proofs.legal.worked_are_whole.Goals as goal

pub returns : goal.returns
returns c = worked_are_whole
