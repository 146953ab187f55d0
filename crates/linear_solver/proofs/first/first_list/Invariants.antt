use Rattle.std.proofs.Common.{◌≡◌, map, All}
use Rattle.std.specs.List.{range_with_len}
use Rattle.linear_solver.specs.Elimination.{first_row}
use Rattle.linear_solver.specs.Shapes.{HasShape, shape_of}
use Rattle.linear_solver.proofs.first.first_list.Given as goal

abbrev pub invariant-loop-number : goal.invariant-loop-number
invariant-loop-number l = record {
  front : l.list.items ≡ map (first_row l.bounds l.rows) (range_with_len 0 l.number);
  shape : All (HasShape (shape_of l.bounds l.rows)) l.list.items;
}
