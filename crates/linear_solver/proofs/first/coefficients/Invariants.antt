use Rattle.std.proofs.Common.{◌≡◌, map, vec_len}
use Rattle.std.specs.List.{range_with_len}
use Rattle.linear_cert.specs.declared.rows.Column.TheVariants.{Variable}
use Rattle.linear_solver.specs.Elimination.{number_in}
use Rattle.linear_solver.proofs.first.coefficients.Given as goal

abbrev pub invariant-loop-variable : goal.invariant-loop-variable
invariant-loop-variable l = record {
  front : l.coefs.items ≡ map (λ variable. number_in (Variable variable) l.bounds l.rows l.number) (range_with_len 0 l.variable);
  len : vec_len l.coefs ≡ l.variable;
}
