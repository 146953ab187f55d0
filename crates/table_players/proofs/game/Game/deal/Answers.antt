use Rattle.table_players.proofs.Dealing.{deals_next, has_idle}
use Rattle.table_players.proofs.game.Game.deal.Goals as goal

pub split_for_core-seat-requires-clause-idle : goal.split_for_core-seat-requires-clause-idle
split_for_core-seat-requires-clause-idle c = has_idle c.args.self.now.table.now c.args.seat.now c.args.core c.requires.seat c.requires.core

pub returns-clause-seat : goal.returns-clause-seat
returns-clause-seat c =
    let left = c.split_for_core-seat.ensures.left in
    deals_next c.args.self.now.table.now c.split_for_core-seat.new.seat c.args.seat.now c.args.core c.requires.seat left.of left.view
