use Rattle.model_tests.proofs.RoundRows.{eight_threads_rounds}
use Rattle.model_tests.proofs.rounds.eight_threads_rounds.Goals as goal

pub returns : goal.returns
returns c = eight_threads_rounds
