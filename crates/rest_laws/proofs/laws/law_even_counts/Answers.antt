use Rattle.rest_laws.proofs.Gap.{even_counts}
use Rattle.rest_laws.proofs.laws.law_even_counts.Goals as goal

pub returns : goal.returns
returns c = even_counts
