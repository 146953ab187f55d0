use Rattle.std.proofs.Common.{◌≡◌, ◌≤◌, ◌*◌, ◌^◌, take, unsigned_abs}
use Rattle.linear_solver.specs.Boxes.{least}
use Rattle.linear_solver.proofs.ends.least.Given as goal

abbrev pub invariant-loop-term : goal.invariant-loop-term
invariant-loop-term l = record {
  value : l.sum ≡ least l.bounds (take l.term-index l.terms);
  small : unsigned_abs l.sum ≤ l.term-index * 2 ^ 83;
}
