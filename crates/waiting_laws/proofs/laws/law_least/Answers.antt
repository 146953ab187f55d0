use Rattle.waiting_laws.proofs.Least.{least_law}
use Rattle.waiting_laws.proofs.laws.law_least.Goals as goal

pub returns : goal.returns
returns c = least_law
