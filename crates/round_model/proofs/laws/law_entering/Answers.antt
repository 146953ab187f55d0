use Rattle.round_model.proofs.Entering.{entering}
use Rattle.round_model.proofs.laws.law_entering.Goals as goal

pub returns : goal.returns
returns c = entering
