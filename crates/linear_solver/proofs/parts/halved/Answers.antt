use Rattle.std.proofs.Common.{◌<◌, get_or, FitsSigned, pos, arith, rules, to_z-of_z}
use Rattle.std.specs.Int.{w64}
use Rattle.std.proofs.lemmas.Int.{ints}
use Rattle.linear_form.specs.declared.form.Bound.{Bound}
use Rattle.linear_cert.specs.Right.{part_past, part_up_to}
use Rattle.linear_solver.specs.Boxes.{width}
use Rattle.linear_solver.proofs.Heights.{height_falls}
use Rattle.linear_solver.proofs.parts.halved.Goals as goal

pub returns : goal.returns
returns c =
    let whole = c.args.bounds.now in
    let v = c.args.variable in
    let at = c.middle-at.result in
    let none : Bound = record { lo = pos 0; hi = pos 0 } in
    let range = get_or whole v none in
    let fits : FitsSigned w64 at = search rules in
    let known = c.requires.wide.known in
    let some : 0 < width range = omega (arith, ints, c.requires.wide.wide) in
    let low = simp to_z-of_z at c.in_ok-low_part.ensures in
    let high = simp to_z-of_z at c.in_ok-high_part.ensures in
    λ rows. simp to_z-of_z (record {
      can = record { known = known; from = c.middle-at.ensures.from; below = c.middle-at.ensures.below };
      low = (low, height_falls whole v (part_up_to range at) none known some c.middle-at.ensures.low);
      high = (high, height_falls whole v (part_past range at) none known some c.middle-at.ensures.high);
    })
