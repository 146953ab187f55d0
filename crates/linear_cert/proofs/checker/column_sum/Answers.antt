use Rattle.std.proofs.Common.{◌+◌, FitsSigned, to_z-of_z, below_more, subst, sym, ◌∙◌, arith}
use Rattle.std.specs.Int.{w128}
use Rattle.linear_cert.specs.declared.cert.Mult.{Mult}
use Rattle.linear_cert.proofs.Partial.{next_sum}
use Rattle.linear_cert.proofs.checker.column_sum.Goals as goal

pub returns-in_err-sum : goal.returns-in_err-sum
returns-in_err-sum c =
    let i = c.loop-mult.mult-index in
    let none : Mult = record { row = 0; by = 0 } in
    let next = next_sum c.args.column c.args.bounds.now c.args.rows.now c.args.mults.now i none _ c.loop-mult-test.true c.loop-mult.invariant.value in
    rw c.from_residual.ensures (λ fit. c.in_err-sum.ensures (subst (FitsSigned w128) (sym next) (fit (i + 1) (omega arith))))

pub loop-mult-preserved : goal.loop-mult-preserved
loop-mult-preserved c =
    let i = c.loop-mult.mult-index in
    let none : Mult = record { row = 0; by = 0 } in
    let next = next_sum c.args.column c.args.bounds.now c.args.rows.now c.args.mults.now i none _ c.loop-mult-test.true c.loop-mult.invariant.value in
    let sum = c.in_ok-sum.ensures in
    let fits : FitsSigned w128 c.in_ok-sum.sum = subst (FitsSigned w128) (sym sum.1) sum.0 in
    record {
      value = to_z-of_z fits ∙ sum.1 ∙ next;
      fit = below_more _ (i + 1) c.loop-mult.invariant.fit (subst (FitsSigned w128) (sum.1 ∙ next) fits);
    }
