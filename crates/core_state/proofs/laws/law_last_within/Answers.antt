use Rattle.core_state.proofs.Quiet.{last_within}
use Rattle.core_state.proofs.laws.law_last_within.Goals as goal

pub returns : goal.returns
returns c = last_within
