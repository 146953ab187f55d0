use Rattle.level_policy.proofs.Nearest.{nearest_best_law}
use Rattle.level_policy.proofs.laws.law_nearest_best.Goals as goal

pub returns : goal.returns
returns c = nearest_best_law
