use Rattle.core_table.specs.Public.{view_of}
use Rattle.table_players.proofs.Dealing.{takes_next}
use Rattle.table_players.proofs.game.Game.take_back.Goals as goal

pub returns : goal.returns
returns c =
    let player = c.args.player in let of_core = c.requires.player.at.turn.of_core in let joined = c.join_back.ensures.joined in
    takes_next c.args.self.now.table.now c.join_back.new.seat c.args.seat.now player.core (view_of player.seat) of_core.none_due c.requires.seat of_core.role joined.of joined.view
