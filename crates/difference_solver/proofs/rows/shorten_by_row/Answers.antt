use Rattle.std.proofs.Common.{◌≡◌, ◌<ℤ◌, length, Some, get_or, FitsSigned, to_z, of_z, to_z-of_z, ap, sym, subst, ◌∙◌, arith, rules}
use Rattle.std.specs.Int.{w64}
use Rattle.std.proofs.lemmas.Bool.{false≢true}
use Rattle.std.proofs.lemmas.Option.{slice_get-get_or, get_or_from_slice_get}
use Rattle.linear_cert.specs.Rows.{numbered_row}
use Rattle.linear_cert.proofs.Numbered.{numbered_below}
use Rattle.difference_solver.specs.Distance.{distance_of_row}
use Rattle.difference_solver.specs.Distances.{Puts, between}
use Rattle.difference_solver.specs.Meaning.{IsEdge, Keeps}
use Rattle.difference_solver.proofs.Shorter.{by_row, kept_by_put, kept_already}
use Rattle.difference_solver.proofs.rows.shorten_by_row.Goals as goal

pub returns-in_ok-distance-clause-shortens : goal.returns-in_ok-distance-clause-shortens
returns-in_ok-distance-clause-shortens c =
    let row = c.index-rows-number.result in
    let bounds = c.args.system.now.bounds in
    let rows = c.args.system.now.rows in
    let is : row ≡ get_or rows c.args.number row = rw c.rows.ensures.rows at c.index-rows-number.is in
    let found : numbered_row bounds rows c.args.number ≡ Some row =
    numbered_below bounds rows c.args.number c.requires.number ∙ slice_get-get_or rows c.args.number row c.requires.number ∙ ap Some (sym is) in
    let edge : IsEdge (length bounds) row.terms c.ends-from.result.0 c.ends-from.result.1 = rw c.bounds.ensures at c.ends-from.ensures in
    let fits : FitsSigned w64 row.bound = search rules in
    let bound : to_z w64 (of_z w64 row.bound) ≡ row.bound = to_z-of_z fits in
    let of_row = rw bound at c.in_ok-distance.ensures in
    let put : Puts c.args.distances.now c.put.new.self c.ends-from.result.0 c.ends-from.result.1 (distance_of_row c.args.number row.bound) = rw of_row at c.put.ensures in
    let less : row.bound <ℤ (between c.args.distances.now c.ends-from.result.0 c.ends-from.result.1).bound = rw c.get.ensures at (c.is_less.ensures.0 c.if-is_less.true) in
    by_row bounds rows _ _ c.args.number c.ends-from.result.0 c.ends-from.result.1 row found (omega (arith, c.requires.number)) edge put less

pub returns-in_ok-distance-clause-keeps : goal.returns-in_ok-distance-clause-keeps
returns-in_ok-distance-clause-keeps c row named =
    let here = c.index-rows-number.result in
    let bounds = c.args.system.now.bounds in
    let is : here ≡ get_or c.args.system.now.rows c.args.number here = rw c.rows.ensures.rows at c.index-rows-number.is in
    let same : here ≡ row = is ∙ get_or_from_slice_get c.args.system.now.rows c.args.number row here named in
    let edge : IsEdge (length bounds) here.terms c.ends-from.result.0 c.ends-from.result.1 = rw c.bounds.ensures at c.ends-from.ensures in
    let fits : FitsSigned w64 here.bound = search rules in
    let bound : to_z w64 (of_z w64 here.bound) ≡ here.bound = to_z-of_z fits in
    let of_row = rw bound at c.in_ok-distance.ensures in
    let put : Puts c.args.distances.now c.put.new.self c.ends-from.result.0 c.ends-from.result.1 (distance_of_row c.args.number here.bound) = rw of_row at c.put.ensures in
    subst (Keeps (length bounds) c.put.new.self) same (kept_by_put bounds c.args.system.now.rows _ _ c.args.number c.ends-from.result.0 c.ends-from.result.1 here edge put)

pub returns-else-is_less-clause-keeps : goal.returns-else-is_less-clause-keeps
returns-else-is_less-clause-keeps c row named =
    let here = c.index-rows-number.result in
    let bounds = c.args.system.now.bounds in
    let is : here ≡ get_or c.args.system.now.rows c.args.number here = rw c.rows.ensures.rows at c.index-rows-number.is in
    let same : here ≡ row = is ∙ get_or_from_slice_get c.args.system.now.rows c.args.number row here named in
    let edge : IsEdge (length bounds) here.terms c.ends-from.result.0 c.ends-from.result.1 = rw c.bounds.ensures at c.ends-from.ensures in
    let enough : here.bound <ℤ (between c.args.distances.now c.ends-from.result.0 c.ends-from.result.1).bound → ⊥ =
    λ less. false≢true (sym c.if-is_less.false ∙ c.is_less.ensures.1 (rw c.get.ensures less)) in
    subst (Keeps (length bounds) c.args.distances.now) same (kept_already bounds c.args.system.now.rows _ c.ends-from.result.0 c.ends-from.result.1 here edge enough)
