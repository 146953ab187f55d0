use Rattle.std.proofs.Common.{◌≡◌, ◌≤◌, ◌*◌, ◌^◌, take, unsigned_abs}
use Rattle.linear_form.specs.Solution.{left_side}
use Rattle.linear_solver.proofs.rows_at.left_side.Given as goal

abbrev pub invariant-loop-term : goal.invariant-loop-term
invariant-loop-term l = record {
  value : l.sum ≡ left_side l.values (take l.term-index l.terms);
  small : unsigned_abs l.sum ≤ l.term-index * 2 ^ 105;
}
