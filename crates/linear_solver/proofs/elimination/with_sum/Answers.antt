use Rattle.std.proofs.Common.{All, [], ◌<ℤ◌, int_lt, pos, subst, ◌∙◌, sym, arith}
use Rattle.std.proofs.lemmas.Bool.{cond-true}
use Rattle.std.proofs.lemmas.Int.{ints}
use Rattle.std.proofs.lemmas.Result.{IfOk-weaker}
use Rattle.linear_solver.specs.Elimination.{IsSmall, coef_of, kept, sum_without}
use Rattle.linear_solver.specs.Shapes.{HasShape}
use Rattle.linear_solver.proofs.Extensions.{extends_row, lt_test, sum_shape, within_back}
use Rattle.linear_solver.proofs.elimination.with_sum.Goals as goal

pub returns-in-TooLarge : goal.returns-in-TooLarge
returns-in-TooLarge c = λ within.
    let sums = kept (sum_without c.args.variable c.args.p.now c.args.q.now) in
    let falls : coef_of c.args.variable c.args.q.now <ℤ pos 0 = omega (arith, ints, c.coefficient.ensures) in
    let more = cond-true (int_lt (coef_of c.args.variable c.args.q.now) (pos 0)) sums [] (lt_test _ _ falls) in
    let large = rw c.in-TooLarge.is at c.in_ok-combine.ensures in
    large (subst (All IsSmall) more (within_back _ _ within).small)

pub returns-in-Kept : goal.returns-in-Kept
returns-in-Kept c =
    let sum = sum_without c.args.variable c.args.p.now c.args.q.now in
    let sums = kept sum in
    let falls : coef_of c.args.variable c.args.q.now <ℤ pos 0 = omega (arith, ints, c.coefficient.ensures) in
    let more = cond-true (int_lt (coef_of c.args.variable c.args.q.now) (pos 0)) sums [] (lt_test _ _ falls) in
    let is = rw c.in-Kept.is at c.in_ok-combine.ensures in
    let shape = sum_shape c.args.shape _ _ c.args.p.now c.args.q.now c.requires.p c.requires.q (subst IsSmall is.1 is.2) in
    IfOk-weaker c.with_row.result _ _ (extends_row c.args.shape c.args.sums.items _ c.in-Kept.sum c.requires.sums (subst (HasShape c.args.shape) (sym is.1) shape) (more ∙ is.0)) c.with_row.ensures
