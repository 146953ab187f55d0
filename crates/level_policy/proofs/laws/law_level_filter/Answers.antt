use Rattle.level_policy.proofs.Passing.{level_filter_law}
use Rattle.level_policy.proofs.laws.law_level_filter.Goals as goal

pub returns : goal.returns
returns c = level_filter_law
