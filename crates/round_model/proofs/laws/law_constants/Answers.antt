use Rattle.round_model.proofs.Constants.{constants}
use Rattle.round_model.proofs.laws.law_constants.Goals as goal

pub returns : goal.returns
returns c = constants
