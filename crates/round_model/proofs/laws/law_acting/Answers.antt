use Rattle.round_model.proofs.Entering.{acting}
use Rattle.round_model.proofs.laws.law_acting.Goals as goal

pub returns : goal.returns
returns c = acting
