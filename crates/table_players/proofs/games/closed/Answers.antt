use Rattle.std.proofs.Common.{arith}
use Rattle.table_players.proofs.games.closed.Goals as goal

pub returns-clause-logs : goal.returns-clause-logs
returns-clause-logs c =
    let is = c.close.ensures.closed in (is.history, is.logs, let room = is.known.reserve in let most = is.known.limits.few_entries in omega arith)
