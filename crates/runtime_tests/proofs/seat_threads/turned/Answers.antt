use Rattle.std.proofs.Common.{subst}
use Rattle.core_table.specs.declared.seat.Table.{Table}
use Rattle.core_table.specs.Public.{IsOf, view_of}
use Rattle.table_players.specs.declared.players.Stage.TheVariants as stage
use Rattle.table_players.specs.Games.{IsTurn}
use Rattle.table_players.proofs.Turning.{over_now}
use Rattle.runtime_tests.proofs.seat_threads.turned.Goals as goal

pub returns : goal.returns
returns g c =
    let e = c.turn-seat.ensures in let player = c.turn-seat.result in let v = view_of player.seat in
    record { of = subst (λ (t : Table). IsOf t player.seat) c.new.ensures e.at.of; turn = subst (λ core. IsTurn v core stage.Over) e.number (over_now v player.core player.stage e.at.turn) }
