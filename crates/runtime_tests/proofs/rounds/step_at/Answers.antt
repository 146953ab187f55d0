use Rattle.std.proofs.Common.{subst}
use Rattle.table_players.specs.Games.{Plays}
use Rattle.table_players.proofs.Pushing.{each_set}
use Rattle.runtime_tests.proofs.rounds.step_at.Goals as goal

pub returns-then-at-players : goal.returns-then-at-players
returns-then-at-players g c =
    let t = c.args.game.now.table.now in
    each_set (Plays t) c.args.players.now c.args.at c.step.new.player c.requires c.if-at-players.true
    (subst (λ k. Plays t k c.step.new.player) (c.requires c.args.at c.index-players-at.result c.if-at-players.true).number c.step.ensures)
