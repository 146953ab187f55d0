use Rattle.std.proofs.Common.{◌<◌, ◌≤◌, ◌/◌, get_or, pos, refl, ap, subst, sym, ◌∙◌, arith}
use Rattle.std.proofs.lemmas.Int.{ints}
use Rattle.std.proofs.lemmas.List.{get_or-set_same}
use Rattle.linear_form.specs.declared.form.Bound.{Bound}
use Rattle.linear_solver.specs.Boxes.{height, width}
use Rattle.linear_solver.proofs.Heights.{height_falls}
use Rattle.linear_solver.proofs.parts.smaller.Goals as goal

pub returns-then-width : goal.returns-then-width
returns-then-width c =
    let whole = c.args.bounds.now in
    let v = c.args.variable in
    let none : Bound = record { lo = pos 0; hi = pos 0 } in
    let range = c.requires.rest.0 in
    let part_is = c.requires.rest.1 in
    let at = ap (λ xs. get_or xs v none) part_is ∙ get_or-set_same whole v range none c.requires.known in
    let some : 0 < width (get_or whole v none) = omega (arith, ints) in
    let own = rw (c.as_slice.ensures.value, at) at c.width.ensures in
    let half : width range ≤ width (get_or whole v none) / 2 = omega (arith, own, c.width-then-whole.ensures) in
    λ rows. (refl, subst (λ xs. height xs < height whole) (sym part_is) (height_falls whole v range none c.requires.known some half))
