use Rattle.core_state.proofs.Logs.{log_grows}
use Rattle.core_state.proofs.laws.law_log_grows.Goals as goal

pub returns : goal.returns
returns c = log_grows
