use Rattle.std.proofs.Common.{◌≡◌, ℕ, ◌<◌, neg_ℤ, get_or, length, pos}
use Rattle.obligations.proofs.forms.Form.opposite.Given as goal

abbrev pub invariant-loop-variable : goal.invariant-loop-variable
invariant-loop-variable l = record {
  each : (v : ℕ) → v < l.variable → get_or l.coefficients v (pos 0) ≡ neg_ℤ (get_or l.self.coefficients v (pos 0));
  long : length l.coefficients ≡ 30;
}
