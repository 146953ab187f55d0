use Rattle.round_model.proofs.Bounded.{bounds_law}
use Rattle.round_model.proofs.laws.law_bounds.Goals as goal

pub returns : goal.returns
returns c = bounds_law
