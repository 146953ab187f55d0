use Rattle.round_model.proofs.Openings.{opening_bounds}
use Rattle.round_model.proofs.laws.law_opening.Goals as goal

pub returns : goal.returns
returns c = opening_bounds
