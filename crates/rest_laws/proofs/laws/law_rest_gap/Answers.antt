use Rattle.rest_laws.proofs.Gap.{rest_gap}
use Rattle.rest_laws.proofs.laws.law_rest_gap.Goals as goal

pub returns : goal.returns
returns c = rest_gap
