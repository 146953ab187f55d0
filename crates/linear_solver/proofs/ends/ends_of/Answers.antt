use Rattle.std.proofs.Common.{◌≤◌, ◌+◌, ◌*◌, ◌^◌, pos, ◌+ℤ◌, unsigned_abs, to_z, FitsSigned, ◌∙◌, arith, rules}
use Rattle.std.specs.Int.{w128}
use Rattle.linear_form.specs.declared.form.Term.{Term}
use Rattle.linear_form.proofs.Sums.{sum_over_more}
use Rattle.linear_solver.specs.Boxes.{greatest_term, least_term}
use Rattle.linear_solver.proofs.Magnitudes.{ends_fit, ends_more, ends_stored}
use Rattle.linear_solver.proofs.ends.ends_of.Goals as goal

pub loop-term-preserved : goal.loop-term-preserved
loop-term-preserved c =
    let i = c.loop-term.term-index in
    let none : Term = record { var = 0; coef = pos 0 } in
    let low = to_z w128 c.loop-term.low-bits in
    let least = c.least_term-low.result in
    let small_low : unsigned_abs (low +ℤ least) ≤ (i + 1) * 2 ^ 83 =
    ends_more low least i c.loop-term.invariant.small_low c.least_term-low.ensures.small in
    let least_fits : FitsSigned w128 least = search rules in
    let low_stored = ends_stored low least least_fits (ends_fit _ (i + 1) (omega arith) small_low) in
    let more_low = sum_over_more (least_term c.args.bounds.now) c.args.terms.now i none c.loop-term-test.true in
    let high = to_z w128 c.loop-term.high-bits in
    let greatest = c.greatest_term-high.result in
    let small_high : unsigned_abs (high +ℤ greatest) ≤ (i + 1) * 2 ^ 83 =
    ends_more high greatest i c.loop-term.invariant.small_high c.greatest_term-high.ensures.small in
    let greatest_fits : FitsSigned w128 greatest = search rules in
    let high_stored = ends_stored high greatest greatest_fits (ends_fit _ (i + 1) (omega arith) small_high) in
    let more_high = sum_over_more (greatest_term c.args.bounds.now) c.args.terms.now i none c.loop-term-test.true in
    record {
      low = low_stored ∙ cc more_low;
      high = high_stored ∙ cc more_high;
      small_low = rw low_stored small_low;
      small_high = rw high_stored small_high;
    }
