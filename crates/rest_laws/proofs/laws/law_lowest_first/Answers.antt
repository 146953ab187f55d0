use Rattle.rest_laws.proofs.LowestFirst.{lowest_first}
use Rattle.rest_laws.proofs.laws.law_lowest_first.Goals as goal

pub returns : goal.returns
returns c = lowest_first
