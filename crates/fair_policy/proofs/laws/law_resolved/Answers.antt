use Rattle.fair_policy.proofs.FairResolved.{fair_resolved}
use Rattle.fair_policy.proofs.laws.law_resolved.Goals as goal

pub returns : goal.returns
returns c = fair_resolved
