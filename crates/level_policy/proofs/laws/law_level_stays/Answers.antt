use Rattle.level_policy.proofs.Staying.{level_stays_law}
use Rattle.level_policy.proofs.laws.law_level_stays.Goals as goal

pub returns : goal.returns
returns c = level_stays_law
