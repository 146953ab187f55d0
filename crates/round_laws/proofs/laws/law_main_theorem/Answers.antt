use Rattle.round_laws.proofs.MainTheorem.{main_theorem}
use Rattle.round_laws.proofs.laws.law_main_theorem.Goals as goal

pub returns : goal.returns
returns c = main_theorem
