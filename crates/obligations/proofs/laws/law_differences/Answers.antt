use Rattle.obligations.proofs.Differing.{comparisons_give_differences}
use Rattle.obligations.proofs.laws.law_differences.Goals as goal

pub returns : goal.returns
returns c = comparisons_give_differences
