-- The point itself is no farther.
use Rattle.policy_checker.proofs.Nearer.{begins}
use Rattle.policy_checker.proofs.smaller.better.Goals as goal

pub returns-else-satisfies : goal.returns-else-satisfies
returns-else-satisfies c = begins c.requires.solves
