use Rattle.round_model.proofs.Grows.{one_more}
use Rattle.round_model.proofs.laws.law_one_more.Goals as goal

pub returns : goal.returns
returns c = one_more
