use Rattle.std.proofs.Common.{length}
use Rattle.std.specs.Prelude.{vec_len}
use Rattle.table_players.specs.Games.{IsTaking, PlayAll, table_in}
use Rattle.table_players.proofs.game.Game.take_all_back.Given as goal

-- the seats of the players that are left aren't back
abbrev pub invariant-loop-player : goal.invariant-loop-player
invariant-loop-player l = record {
  taking : IsTaking (table_in l.self) l.seat (length l.players.items);
  all : PlayAll (table_in l.self) l.players.items;
}

abbrev pub decreases-loop-player : goal.decreases-loop-player
decreases-loop-player l = vec_len l.players
