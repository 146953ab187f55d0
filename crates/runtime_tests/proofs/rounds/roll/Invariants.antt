use Rattle.table_players.specs.Games.{PlayAll, table_in}
use Rattle.runtime_tests.proofs.rounds.roll.Given as goal

-- they play their cores still
abbrev pub invariant-loop : goal.invariant-loop
invariant-loop g l = PlayAll (table_in l.game) l.players
