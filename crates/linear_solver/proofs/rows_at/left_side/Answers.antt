use Rattle.std.proofs.Common.{◌≤◌, ◌+◌, ◌*◌, ◌^◌, pos, ◌+ℤ◌, unsigned_abs, to_z, FitsSigned, ◌∙◌, arith, rules}
use Rattle.std.specs.Int.{w128}
use Rattle.std.proofs.lemmas.Int.{ints, to_z-of_z}
use Rattle.linear_form.specs.declared.form.Term.{Term}
use Rattle.linear_form.specs.Solution.{term_value}
use Rattle.linear_form.proofs.Sizes.{sum_small, sum_fits, sum_stored}
use Rattle.linear_form.proofs.Sums.{sum_over_more}
use Rattle.linear_solver.proofs.rows_at.left_side.Goals as goal

pub overflow_add-sum : goal.overflow_add-sum
overflow_add-sum c = grind (arith, ints, to_z-of_z, sum_small, sum_fits)

pub loop-term-preserved : goal.loop-term-preserved
loop-term-preserved c =
    let sum = to_z w128 c.loop-term.sum-bits in
    let next = c.term_value-sum.result in
    let i = c.loop-term.term-index in
    let small : unsigned_abs (sum +ℤ next) ≤ (i + 1) * 2 ^ 105 =
    sum_small sum next i c.loop-term.invariant.small c.term_value-sum.ensures.small in
    let next_fits : FitsSigned w128 next = search rules in
    let stored = sum_stored sum next next_fits (sum_fits _ (i + 1) (omega arith) small) in
    let none : Term = record { var = 0; coef = pos 0 } in
    let more = sum_over_more (term_value c.args.values.now) c.args.terms.now i none c.loop-term-test.true in
    record { value = stored ∙ cc more; small = rw stored small }
