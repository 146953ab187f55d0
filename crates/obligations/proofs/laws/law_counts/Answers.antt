use Rattle.obligations.proofs.Law.{counts_are_cases}
use Rattle.obligations.proofs.laws.law_counts.Goals as goal

pub returns : goal.returns
returns c = counts_are_cases
