use Rattle.level_laws.proofs.Choosing.{level_choice_law}
use Rattle.level_laws.proofs.laws.law_level_choice.Goals as goal

pub returns : goal.returns
returns c = level_choice_law
