use Rattle.model_tests.proofs.MissingRows.{not_whole}
use Rattle.model_tests.proofs.legal.not_whole.Goals as goal

pub returns : goal.returns
returns c = not_whole
