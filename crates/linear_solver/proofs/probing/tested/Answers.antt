use Rattle.std.proofs.Common.{subst, sym}
use Rattle.linear_form.specs.Solution.{Solves}
use Rattle.linear_solver.proofs.Corners.{low_ends_solve}
use Rattle.linear_solver.proofs.Inner.{inner_solves, inner_system}
use Rattle.linear_solver.proofs.probing.tested.Goals as goal

pub look_over-requires : goal.look_over-requires
look_over-requires c =
    let inside = rw c.in-Some.is at c.in_ok-point.ensures in
    rw c.as_slice.ensures.value (inner_system c.args.bounds.now c.in-Some.point.items c.args.rows.now inside c.requires)

pub returns-in-Implied : goal.returns-in-Implied
returns-in-Implied c =
    let whole = c.args.bounds.now in
    let part = c.in-Some.point.items in
    let rows = c.args.rows.now in
    let inside = rw c.in-Some.is at c.in_ok-point.ensures in
    let implied = rw c.as_slice.ensures.value at c.in-Implied.ensures in
    let lows = rw c.as_slice-in-Implied.ensures.value at c.in_ok-low_ends-in-Implied.ensures in
    let solves = low_ends_solve part rows (inner_system whole part rows inside c.requires) implied in
    subst (Solves whole rows) (sym lows) (inner_solves whole part rows inside _ solves)
