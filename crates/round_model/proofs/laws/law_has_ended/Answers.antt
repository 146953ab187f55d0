use Rattle.round_model.proofs.Between.{has_ended_split}
use Rattle.round_model.proofs.laws.law_has_ended.Goals as goal

pub returns : goal.returns
returns c = has_ended_split
