use Rattle.round_model.proofs.Grows.{legal_prefix}
use Rattle.round_model.proofs.laws.law_prefix.Goals as goal

pub returns : goal.returns
returns c = legal_prefix
