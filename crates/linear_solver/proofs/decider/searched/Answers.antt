use Rattle.std.proofs.Common.{◌≡◌, arith, rules}
use Rattle.linear_solver.proofs.Heights.{height_small}
use Rattle.linear_solver.proofs.Whole.{around, around_height}
use Rattle.linear_solver.proofs.decider.searched.Goals as goal

pub returns-clause-found : goal.returns-clause-found
returns-clause-found c =
    let bounds = c.args.system.now.bounds in
    let items : c.in_ok-to_vec.field-0.items ≡ bounds = search rules in
    rw c.rows.ensures.rows at (c.in_ok-found.ensures.found (around bounds) bounds (items, around_height bounds))

pub returns-clause-decides : goal.returns-clause-decides
returns-clause-decides c = λ unlimited points.
    let bounds = c.args.system.now.bounds in
    let items : c.in_ok-to_vec.field-0.items ≡ bounds = search rules in
    let low = height_small bounds c.rows.ensures.system.few_variables points in
    c.in_ok-found.ensures.decides unlimited (rw items low)

pub returns-clause-few : goal.returns-clause-few
returns-clause-few c =
    let bounds = c.args.system.now.bounds in
    let items : c.in_ok-to_vec.field-0.items ≡ bounds = search rules in
    let looks = c.in_ok-found.ensures.looks (around bounds) bounds (items, around_height bounds) in
    omega (arith, looks, c.saturating_add.ensures)
