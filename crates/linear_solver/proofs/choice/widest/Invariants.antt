use Rattle.std.proofs.Common.{◌≡◌, ◌≤◌, All, MatchOption, take}
use Rattle.linear_solver.specs.Boxes.{IsWide, spread}
use Rattle.linear_solver.proofs.choice.widest.Given as goal

abbrev pub invariant-loop-term : goal.invariant-loop-term
invariant-loop-term l = record {
  below : All (λ term. spread l.bounds term ≤ l.most) (take l.term-index l.terms);
  found : MatchOption l.widest (l.most ≡ 0) (IsWide l.bounds);
}
