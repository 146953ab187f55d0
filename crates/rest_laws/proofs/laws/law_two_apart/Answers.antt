use Rattle.rest_laws.proofs.TwoApart.{two_apart}
use Rattle.rest_laws.proofs.laws.law_two_apart.Goals as goal

pub returns : goal.returns
returns c = two_apart
