use Rattle.waiting_laws.proofs.Slices.{slices_law}
use Rattle.waiting_laws.proofs.laws.law_slices.Goals as goal

pub returns : goal.returns
returns c = slices_law
