-- A table's opening seat while it has every core's seat.
use Rattle.std.specs.Prelude.{◌≡◌, []}
use Rattle.core_table.specs.declared.seat.Seat.{Seat}
use Rattle.core_table.specs.declared.seat.Table.{Table}
use Rattle.core_table.specs.Public.{IsOf, view_of}
use Rattle.core_table.specs.Told.{HasAllBack}

-- the table's opening seat, which has every core's seat back and holds nothing
pub record IsFree (t : Table) (s : Seat) : Type 0 where
  pub of : IsOf t s
  pub back : HasAllBack (view_of s)
  pub free : (view_of s).held ≡ []

-- and so before the first round
pub record IsUnbegun (t : Table) (s : Seat) : Type 0 where
  pub free : IsFree t s
  pub round : (view_of s).round ≡ 0
