use Rattle.std.proofs.Common.{◌≡◌, map, take}
use Rattle.obligations.specs.Marks.{placed_by}
use Rattle.obligations.proofs.assembling.system_of.Given as goal

abbrev pub invariant-loop-row : goal.invariant-loop-row
invariant-loop-row l = record {
  bounds : l.system.bounds ≡ l.bounds;
  rows : l.system.rows ≡ map (placed_by l.places) (take l.row-index l.rows);
}
