use Rattle.wait_classes.proofs.Applying.{classes_law}
use Rattle.wait_classes.proofs.laws.law_classes.Goals as goal

pub returns : goal.returns
returns c = classes_law
