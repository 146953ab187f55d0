use Rattle.rest_bounds.proofs.Keeping.{raises_law}
use Rattle.rest_bounds.proofs.laws.law_raises_lowest.Goals as goal

pub returns : goal.returns
returns c = raises_law
