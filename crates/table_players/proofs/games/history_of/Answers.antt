use Rattle.std.proofs.Common.{subst}
use Rattle.core_table.specs.Public.{view_of}
use Rattle.core_table.specs.Told.{Agrees}
use Rattle.history_merge.proofs.Walks.{one_history}
use Rattle.table_players.proofs.games.history_of.Goals as goal

pub returns : goal.returns
returns c =
    let closed = c.closed-closed.ensures.closed in
    subst (Agrees (view_of c.args.seat)) (one_history c.closed-closed.result closed.history c.in_ok-history.history closed.logs c.in_ok-history.ensures) closed.known
