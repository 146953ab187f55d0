use Rattle.fair_policy.proofs.FairMeets.{fair_meets}
use Rattle.fair_policy.proofs.laws.law_meets_obligations.Goals as goal

pub returns : goal.returns
returns c = fair_meets
