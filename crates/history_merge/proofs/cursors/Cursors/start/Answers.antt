use Rattle.history_merge.proofs.Walks.{start_stands}
use Rattle.history_merge.proofs.cursors.Cursors.start.Goals as goal

pub returns : goal.returns
returns c closed = start_stands closed
