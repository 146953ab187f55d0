use Rattle.round_laws.proofs.OnePlace.{one_place_law}
use Rattle.round_laws.proofs.laws.law_one_place.Goals as goal

pub returns : goal.returns
returns c = one_place_law
