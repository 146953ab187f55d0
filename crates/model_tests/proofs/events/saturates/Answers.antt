use Rattle.model_tests.proofs.Happenings.{saturates}
use Rattle.model_tests.proofs.events.saturates.Goals as goal

pub returns : goal.returns
returns c = saturates
