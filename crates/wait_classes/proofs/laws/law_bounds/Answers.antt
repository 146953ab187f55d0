use Rattle.wait_classes.proofs.Applying.{bounds_law}
use Rattle.wait_classes.proofs.laws.law_bounds.Goals as goal

pub returns : goal.returns
returns c = bounds_law
