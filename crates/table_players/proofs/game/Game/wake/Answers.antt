use Rattle.std.proofs.Common.{subst}
use Rattle.core_table.specs.declared.seat.Table.{Table}
use Rattle.core_table.specs.Public.{IsOf, view_of}
use Rattle.core_calls.specs.Steps.{Woken}
use Rattle.table_players.proofs.Turning.{woke_one}
use Rattle.table_players.proofs.game.Game.wake.Goals as goal

pub returns-in-Some : goal.returns-in-Some
returns-in-Some g c =
    let v = view_of c.args.seat.now in let w = view_of c.wake_next.new.seat in let at = c.in-Some._position in
    record {
      of = subst (λ (t : Table). IsOf t c.wake_next.new.seat) c.actor.ensures.table c.in-Some.ensures.seat;
      turn = woke_one v c.args.core at w c.requires.turn (subst (λ core. Woken core at v w) c.actor.ensures.core c.in-Some.ensures.woken);
    }
