use Rattle.wait_classes.proofs.Applying.{queue_law}
use Rattle.wait_classes.proofs.laws.law_queue.Goals as goal

pub returns : goal.returns
returns c = queue_law
