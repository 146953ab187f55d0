use Rattle.std.proofs.Common.{FitsSigned, to_z-of_z, arith, rules}
use Rattle.std.specs.Int.{w64}
use Rattle.std.proofs.lemmas.List.FromFn.{map-range_with_len_more}
use Rattle.linear_cert.specs.declared.rows.Column.TheVariants.{Variable}
use Rattle.linear_solver.specs.Elimination.{number_in}
use Rattle.linear_solver.proofs.first.coefficients.Goals as goal

pub loop-variable-preserved : goal.loop-variable-preserved
loop-variable-preserved c =
    let fits : FitsSigned w64 c.entry.result = search rules in
    let pushed = simp to_z-of_z at c.in_ok-push.ensures.items in
    let value = c.entry.ensures in
    let more = map-range_with_len_more (λ variable. number_in (Variable variable) c.args.bounds.now c.args.rows.now c.args.number) 0 c.loop-variable.variable c.loop-variable.variable (omega arith) in
    record { front = cc; len = search rules }
