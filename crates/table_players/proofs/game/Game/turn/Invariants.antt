use Rattle.table_players.specs.Games.{Plays, table_in}
use Rattle.table_players.proofs.game.Game.turn.Given as goal

-- it plays its core still
abbrev pub invariant-loop : goal.invariant-loop
invariant-loop g l = Plays (table_in l.self) l.fn.player.core l.player
