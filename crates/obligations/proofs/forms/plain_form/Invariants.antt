use Rattle.std.proofs.Common.{◌≡◌, ℕ, ◌<◌, ◌-ℤ◌, get_or, length, pos}
use Rattle.policy_tree.specs.Trees.{expr_tree}
use Rattle.policy_eval.specs.Forms.{coefficient_of}
use Rattle.obligations.proofs.forms.plain_form.Given as goal

abbrev pub invariant-loop-variable : goal.invariant-loop-variable
invariant-loop-variable l = record {
  each : (v : ℕ) → v < l.variable → get_or l.coefficients v (pos 0) ≡ coefficient_of (expr_tree l.left) v -ℤ coefficient_of (expr_tree l.right) v;
  long : length l.coefficients ≡ 30;
}
