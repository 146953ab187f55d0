use Rattle.std.proofs.Common.{◌≡◌, FitsSigned, to_z-of_z, refl, subst, sym, rules}
use Rattle.std.specs.Int.{w64}
use Rattle.linear_solver.specs.declared.derived.Derived.{Derived}
use Rattle.linear_solver.specs.Elimination.{first_row}
use Rattle.linear_solver.specs.Shapes.{HasShape}
use Rattle.linear_solver.proofs.FirstRows.{first_row_shape}
use Rattle.linear_solver.proofs.first.first_row.Goals as goal

pub returns-clause-shape : goal.returns-clause-shape
returns-clause-shape c =
    let fits : FitsSigned w64 c.entry.result = search rules in
    let made : Derived = record { coefs = c.in_ok-coefficients.field-0; bound = c.entry.result; mults = c.in_ok-once.field-0 } in
    let coefs = c.in_ok-coefficients.ensures in
    let bound = c.entry.ensures in
    let mults = c.in_ok-once.ensures in
    let shape = c.requires.shape in
    let same : made ≡ first_row c.args.bounds.now c.args.rows.now c.args.number = rw (coefs, bound, mults, shape) refl in
    simp to_z-of_z (subst (HasShape c.args.shape) (sym same) (rw shape (first_row_shape c.args.bounds.now c.args.rows.now c.args.number c.requires.system)))
