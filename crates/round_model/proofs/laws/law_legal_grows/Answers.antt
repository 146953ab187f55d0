use Rattle.round_model.proofs.Grows.{legal_grows}
use Rattle.round_model.proofs.laws.law_legal_grows.Goals as goal

pub returns : goal.returns
returns c = legal_grows
