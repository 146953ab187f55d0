use Rattle.round_model.proofs.Paying.{owed_law}
use Rattle.round_model.proofs.laws.law_owed.Goals as goal

pub returns : goal.returns
returns c = owed_law
