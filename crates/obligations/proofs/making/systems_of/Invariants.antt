use Rattle.std.proofs.Common.{◌≡◌, take, vec_len}
use Rattle.obligations.specs.Marks.{placed_systems}
use Rattle.obligations.proofs.making.systems_of.Given as goal

abbrev pub invariant-loop-rows : goal.invariant-loop-rows
invariant-loop-rows l = record {
  systems : l.systems.items ≡ placed_systems l.bounds l.places (take l.rows-index l.cases);
  count : vec_len l.systems ≡ l.rows-index;
}
