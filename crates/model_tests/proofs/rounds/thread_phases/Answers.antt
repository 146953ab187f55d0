use Rattle.model_tests.proofs.RoundRows.{thread_phases}
use Rattle.model_tests.proofs.rounds.thread_phases.Goals as goal

pub returns : goal.returns
returns c = thread_phases
