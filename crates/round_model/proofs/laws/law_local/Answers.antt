use Rattle.round_model.proofs.Locality.{local_law}
use Rattle.round_model.proofs.laws.law_local.Goals as goal

pub returns : goal.returns
returns c = local_law
