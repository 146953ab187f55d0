use Rattle.history_merge.proofs.Walks.{one_history}
use Rattle.history_merge.proofs.laws.law_one_history.Goals as goal

pub returns : goal.returns
returns c = one_history
