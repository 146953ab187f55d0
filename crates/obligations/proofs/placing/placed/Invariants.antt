use Rattle.std.proofs.Common.{◌≡◌, ◌≤◌, map, take, get_or, vec_len}
use Rattle.linear_form.specs.declared.form.Term.{Term}
use Rattle.obligations.proofs.placing.placed.Given as goal

abbrev pub invariant-loop-term : goal.invariant-loop-term
invariant-loop-term l = record {
  terms : l.terms.items ≡ map (λ (term : Term). record { var = get_or l.places term.var 0; coef = term.coef }) (take l.term-index l.old);
  few : vec_len l.terms ≤ l.term-index;
}
