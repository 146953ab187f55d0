use Rattle.std.proofs.Common.{◌≡◌, take, All, vec_len}
use Rattle.linear_solver.specs.Sums.{IsAtMost, added}
use Rattle.linear_solver.proofs.factors.added.Given as goal

abbrev pub invariant-loop-place : goal.invariant-loop-place
invariant-loop-place l = record {
  front : l.sums.items ≡ take l.place (added l.x l.y l.left l.right);
  small : All (IsAtMost l.most) l.sums.items;
  len : vec_len l.sums ≡ l.place;
}
