use Rattle.std.proofs.Common.{◌≡◌, ◌≤◌, ◌*◌, ◌^◌, take, unsigned_abs}
use Rattle.linear_solver.specs.Boxes.{greatest}
use Rattle.linear_solver.proofs.ends.greatest.Given as goal

abbrev pub invariant-loop-term : goal.invariant-loop-term
invariant-loop-term l = record {
  value : l.sum ≡ greatest l.bounds (take l.term-index l.terms);
  small : unsigned_abs l.sum ≤ l.term-index * 2 ^ 83;
}
