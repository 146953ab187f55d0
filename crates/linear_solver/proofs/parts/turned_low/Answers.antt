use Rattle.std.proofs.Common.{get_or, FitsSigned, pos, rules, to_z-of_z}
use Rattle.std.specs.Int.{w64}
use Rattle.linear_form.specs.declared.form.Bound.{Bound}
use Rattle.linear_cert.specs.Right.{part_past, part_up_to}
use Rattle.linear_cert.proofs.Parts.{changed_again}
use Rattle.linear_solver.proofs.parts.turned_low.Goals as goal

pub returns : goal.returns
returns c =
    let whole = c.args.bounds.now in
    let v = c.args.variable in
    let at = c.args.at in
    let none : Bound = record { lo = pos 0; hi = pos 0 } in
    let range = get_or whole v none in
    let fits : FitsSigned w64 at = search rules in
    let range_is = simp to_z-of_z at c.part_up_to.ensures in
    rw range_is (changed_again whole c.args.part.items v (part_past range at) (part_up_to range at) c.requires.part)
