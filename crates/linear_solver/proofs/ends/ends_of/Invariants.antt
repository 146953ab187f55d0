use Rattle.std.proofs.Common.{◌≡◌, ◌≤◌, ◌*◌, ◌^◌, take, unsigned_abs}
use Rattle.linear_solver.specs.Boxes.{greatest, least}
use Rattle.linear_solver.proofs.ends.ends_of.Given as goal

abbrev pub invariant-loop-term : goal.invariant-loop-term
invariant-loop-term l = record {
  low : l.low ≡ least l.bounds (take l.term-index l.terms);
  high : l.high ≡ greatest l.bounds (take l.term-index l.terms);
  small_low : unsigned_abs l.low ≤ l.term-index * 2 ^ 83;
  small_high : unsigned_abs l.high ≤ l.term-index * 2 ^ 83;
}
