-- What a contract sees of a core that acts.
use Rattle.std.specs.Prelude.{ℕ}
use Rattle.core_table.specs.declared.seat.Seat.{Seat}
use Rattle.core_table.specs.declared.seat.Table.{Table}
use Rattle.core_calls.specs.declared.actor.Actor.{Actor}
use Rattle.core_calls.specs.declared.seat_calls.SeatCalls.{SeatCalls}

abbrev pub table_of : Actor → Table
table_of a = a.table.now

abbrev pub core_of : Actor → ℕ
core_of a = a.core

abbrev pub actor_of : SeatCalls → Actor
actor_of c = c.actor

abbrev pub seat_of : SeatCalls → Seat
seat_of c = c.seat
