use Rattle.rest_laws.proofs.LowestFirst.{even_soon}
use Rattle.rest_laws.proofs.laws.law_even_soon.Goals as goal

pub returns : goal.returns
returns c = even_soon
