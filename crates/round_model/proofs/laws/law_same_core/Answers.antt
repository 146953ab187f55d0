use Rattle.round_model.proofs.Between.{same_core}
use Rattle.round_model.proofs.laws.law_same_core.Goals as goal

pub returns : goal.returns
returns c = same_core
