use Rattle.core_state.proofs.Quiet.{quiet}
use Rattle.core_state.proofs.laws.law_quiet.Goals as goal

pub returns : goal.returns
returns c = quiet
