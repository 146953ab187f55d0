use Rattle.std.proofs.Common.{◌≡◌, length}
use Rattle.table_players.specs.Games.{IsDealing, PlayAll, table_in}
use Rattle.table_players.proofs.game.Game.deal_all.Given as goal

-- the cores so far have their players
abbrev pub invariant-loop-core : goal.invariant-loop-core
invariant-loop-core l = record {
  count : length l.players.items ≡ l.core;
  dealing : IsDealing (table_in l.self) l.seat l.core;
  all : PlayAll (table_in l.self) l.players.items;
}
