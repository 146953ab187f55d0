use Rattle.std.proofs.Common.{◌*◌, ◌+◌, arith, pos, drop, ap, ◌∙◌, sym, drop_of_length-le}
use Rattle.std.proofs.Math.Nat.{mul-one}
use Rattle.linear_form.specs.declared.form.Bound.{Bound}
use Rattle.linear_form.specs.Points.{points_of}
use Rattle.linear_form.proofs.Counting.{points_more, points_past}
use Rattle.linear_form.proofs.shape.points_of.Goals as goal

abbrev none : Bound
none = record { lo = pos 0; hi = pos 0 }

-- the product would pass the limit, and the product of all ranges is no less
pub returns-in-None : goal.returns-in-None
returns-in-None c =
    let i = c.loop-bound.bound-index in
    let is = c.from.ensures ∙ c.size_of.ensures in
    let more = points_more _ i none c.loop-bound.points _ c.loop-bound-test.true is in
    let past = points_past (c.loop-bound.points * c.from.result) (drop (i + 1) c.args.bounds.now) in
    let all = more ∙ c.loop-bound.invariant.left in
    λ small. c.in-None.ensures (omega (arith, past, all, small))

pub loop-bound-preserved : goal.loop-bound-preserved
loop-bound-preserved c =
    let i = c.loop-bound.bound-index in
    let is = c.from.ensures ∙ c.size_of.ensures in
    let more = points_more _ i none c.loop-bound.points _ c.loop-bound-test.true is in
    let product = c.in-Some.ensures.1 in
    record {
      left = ap (λ n. n * points_of (drop (i + 1) c.args.bounds.now)) product ∙ more ∙ c.loop-bound.invariant.left;
      small = omega (arith, product, c.in-Some.ensures.0);
    }

pub returns : goal.returns
returns c =
    let points = c.loop-bound.points in
    let none_left = drop_of_length-le c.args.bounds.now c.loop-bound-test.false in
    let is = sym (ap (λ left. points * points_of left) none_left ∙ mul-one points) ∙ c.loop-bound.invariant.left in
    (omega (arith, is, c.loop-bound.invariant.small), is)
