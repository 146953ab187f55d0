use Rattle.std.proofs.Common.{◌≡◌, ◌+◌, take, length}
use Rattle.linear_solver.specs.Boxes.{row_leaf}
use Rattle.linear_solver.proofs.leaf.row_leaf.Given as goal

abbrev pub invariant-loop-term : goal.invariant-loop-term
invariant-loop-term l = record {
  front : l.leaf ≡ row_leaf (length l.rows) l.number (take l.term-index l.terms);
  len : length l.leaf ≡ 1 + l.term-index;
}
