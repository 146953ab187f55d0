use Rattle.table_players.specs.Games.{PlayAll, table_in}
use Rattle.runtime_tests.proofs.rounds.take_in_order.Given as goal

-- they play their cores still
abbrev pub invariant-loop-at : goal.invariant-loop-at
invariant-loop-at g l = PlayAll (table_in l.game) l.players
