use Rattle.std.proofs.Common.{◌≡◌, ◌≤◌, get_or, pos, vec_len}
use Rattle.obligations.specs.Forms.{terms_below}
use Rattle.obligations.proofs.forms.Form.at_most.Given as goal

abbrev pub invariant-loop-variable : goal.invariant-loop-variable
invariant-loop-variable l = record {
  terms : l.terms.items ≡ terms_below (λ v. get_or l.self.coefficients v (pos 0)) l.variable;
  few : vec_len l.terms ≤ l.variable;
}
