use Rattle.round_model.proofs.OwedBounds.{owed_bound}
use Rattle.round_model.proofs.laws.law_owed_bound.Goals as goal

pub returns : goal.returns
returns c = owed_bound
