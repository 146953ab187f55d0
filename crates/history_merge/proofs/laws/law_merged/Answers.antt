use Rattle.history_merge.proofs.MergedLists.{merged_history}
use Rattle.history_merge.proofs.laws.law_merged.Goals as goal

pub returns : goal.returns
returns c = merged_history
