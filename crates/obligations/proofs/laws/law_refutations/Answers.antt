use Rattle.obligations.proofs.Law.{refutations_are_theirs}
use Rattle.obligations.proofs.laws.law_refutations.Goals as goal

pub returns : goal.returns
returns c = refutations_are_theirs
