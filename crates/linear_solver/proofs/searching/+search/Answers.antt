use Rattle.std.proofs.Common.{◌≡◌, List, FitsSigned, ap, subst, sym, arith, rules, to_z-of_z}
use Rattle.std.specs.Int.{w64}
use Rattle.linear_form.specs.declared.form.Bound.{Bound}
use Rattle.linear_form.specs.Solution.{Solves}
use Rattle.linear_cert.specs.Right.{CertTree, IsRight, SplitsAtMost, cert_tree, past, up_to}
use Rattle.linear_solver.specs.Found.{height_of}
use Rattle.linear_form.specs.Points.{points_of}
use Rattle.linear_form.proofs.Counting.{points_positive}
use Rattle.linear_solver.proofs.HalvedPoints.{points_add}
use Rattle.linear_solver.proofs.Joining.{high_height, high_system, low_height, low_system, solves_high, solves_low}
use Rattle.linear_solver.proofs.searching.+search.Goals as goal

pub search-requires : goal.search-requires
search-requires t c =
    let rows = c.args.rows.now in
    let bounds = c.in-Open.bounds.items in
    let partition = c.in-Cut.partition in
    let system = rw c.in-Open.is at c.requires in
    let is = rw (c.in-Cut.is, c.as_slice.ensures.value) at c.in_ok-found.ensures.step in
    (omega (arith, low_height bounds rows system partition is.1, ap height_of c.in-Open.is, c.decreases), low_system bounds rows system partition is.1)

pub search-requires-2 : goal.search-requires-2
search-requires-2 t c =
    let rows = c.args.rows.now in
    let bounds = c.in-Open.bounds.items in
    let partition = c.in-Cut.partition in
    let system = rw c.in-Open.is at c.requires in
    let is = rw (c.in-Cut.is, c.as_slice.ensures.value) at c.in_ok-found.ensures.step in
    (omega (arith, high_height bounds rows system partition is.1, ap height_of c.in-Open.is, c.decreases), high_system bounds rows system partition is.1)

pub returns-in-Solved-clause-found : goal.returns-in-Solved-clause-found
returns-in-Solved-clause-found t c = λ whole ranges part_is.
    let rows = c.args.rows.now in
    let bounds = c.in-Open.bounds.items in
    let partition = c.in-Cut.partition in
    let is = rw (c.in-Cut.is, c.as_slice.ensures.value) at c.in_ok-found.ensures.step in
    let own = rw c.in-Open.is at part_is in
    let found = rw c.in-Solved.is at (c.in_ok-cert.ensures.found bounds (up_to bounds partition.variable partition.at) is.1.low) in
    subst (λ (r : List Bound). Solves r rows c.in-Solved.point.vals) own.0 (solves_low bounds rows partition.variable partition.at is.1.can c.in-Solved.point.vals found)

pub returns-in-Solved-2-clause-found : goal.returns-in-Solved-2-clause-found
returns-in-Solved-2-clause-found t c = λ whole ranges part_is.
    let rows = c.args.rows.now in
    let bounds = c.in-Open.bounds.items in
    let partition = c.in-Cut.partition in
    let is = rw (c.in-Cut.is, c.as_slice.ensures.value) at c.in_ok-found.ensures.step in
    let own = rw c.in-Open.is at part_is in
    let found = rw c.in-Solved-2.is at (c.in_ok-cert-2.ensures.found bounds (past bounds partition.variable partition.at) is.1.high) in
    subst (λ (r : List Bound). Solves r rows c.in-Solved-2.point.vals) own.0 (solves_high bounds rows partition.variable partition.at is.1.can c.in-Solved-2.point.vals found)

pub returns-clause-found : goal.returns-clause-found
returns-clause-found t c = λ whole ranges part_is.
    let rows = c.args.rows.now in
    let bounds = c.in-Open.bounds.items in
    let partition = c.in-Cut.partition in
    let is = rw (c.in-Cut.is, c.as_slice.ensures.value) at c.in_ok-found.ensures.step in
    let own = rw c.in-Open.is at part_is in
    let low = rw c.in-Refuted.is at (c.in_ok-cert.ensures.found bounds (up_to bounds partition.variable partition.at) is.1.low) in
    let high = rw c.in-Refuted-2.is at (c.in_ok-cert-2.ensures.found bounds (past bounds partition.variable partition.at) is.1.high) in
    let fits : FitsSigned w64 partition.at = search rules in
    let tree = simp to_z-of_z at c.in_ok-joined.ensures in
    let P : List Bound → CertTree → Type 0 = λ r tree'. IsRight r rows tree' × SplitsAtMost c.args.room tree' in
    subst (λ (r : List Bound). P r (cert_tree c.in_ok-joined.field-0)) own.0 (subst (P bounds) (sym tree) ((is.1.can, low.0, high.0), (is.0, low.1, high.1)))

-- a part has a point, and is looked at in vain before it is cut
pub returns-in-Closed-clause-looks : goal.returns-in-Closed-clause-looks
returns-in-Closed-clause-looks t c = λ whole ranges part_is. omega (arith, points_positive ranges)

pub returns-in-Done-clause-looks : goal.returns-in-Done-clause-looks
returns-in-Done-clause-looks t c = λ whole ranges part_is. omega (arith, points_positive ranges, c.in_ok-found.ensures.looks)

pub returns-in-Solved-clause-looks : goal.returns-in-Solved-clause-looks
returns-in-Solved-clause-looks t c = λ whole ranges part_is.
    let bounds = c.in-Open.bounds.items in
    let partition = c.in-Cut.partition in
    let is = rw (c.in-Cut.is, c.as_slice.ensures.value) at c.in_ok-found.ensures.step in
    let own = rw c.in-Open.is at part_is in
    let same : points_of bounds ≡ points_of ranges = ap points_of own.0 in
    let sum = points_add bounds partition.variable partition.at is.1.can in
    let low = c.in_ok-cert.ensures.looks bounds (up_to bounds partition.variable partition.at) is.1.low in
    omega (arith, same, sum, low, c.in_ok-found.ensures.looks, points_positive (past bounds partition.variable partition.at))

pub returns-in-Stopped-clause-looks : goal.returns-in-Stopped-clause-looks
returns-in-Stopped-clause-looks t c = λ whole ranges part_is.
    let bounds = c.in-Open.bounds.items in
    let partition = c.in-Cut.partition in
    let is = rw (c.in-Cut.is, c.as_slice.ensures.value) at c.in_ok-found.ensures.step in
    let own = rw c.in-Open.is at part_is in
    let same : points_of bounds ≡ points_of ranges = ap points_of own.0 in
    let sum = points_add bounds partition.variable partition.at is.1.can in
    let low = c.in_ok-cert.ensures.looks bounds (up_to bounds partition.variable partition.at) is.1.low in
    omega (arith, same, sum, low, c.in_ok-found.ensures.looks, points_positive (past bounds partition.variable partition.at))

pub returns-in-Solved-2-clause-looks : goal.returns-in-Solved-2-clause-looks
returns-in-Solved-2-clause-looks t c = λ whole ranges part_is.
    let bounds = c.in-Open.bounds.items in
    let partition = c.in-Cut.partition in
    let is = rw (c.in-Cut.is, c.as_slice.ensures.value) at c.in_ok-found.ensures.step in
    let own = rw c.in-Open.is at part_is in
    let same : points_of bounds ≡ points_of ranges = ap points_of own.0 in
    let sum = points_add bounds partition.variable partition.at is.1.can in
    let low = c.in_ok-cert.ensures.looks bounds (up_to bounds partition.variable partition.at) is.1.low in
    let high = c.in_ok-cert-2.ensures.looks bounds (past bounds partition.variable partition.at) is.1.high in
    omega (arith, same, sum, low, high, c.in_ok-found.ensures.looks)

pub returns-in-Stopped-2-clause-looks : goal.returns-in-Stopped-2-clause-looks
returns-in-Stopped-2-clause-looks t c = λ whole ranges part_is.
    let bounds = c.in-Open.bounds.items in
    let partition = c.in-Cut.partition in
    let is = rw (c.in-Cut.is, c.as_slice.ensures.value) at c.in_ok-found.ensures.step in
    let own = rw c.in-Open.is at part_is in
    let same : points_of bounds ≡ points_of ranges = ap points_of own.0 in
    let sum = points_add bounds partition.variable partition.at is.1.can in
    let low = c.in_ok-cert.ensures.looks bounds (up_to bounds partition.variable partition.at) is.1.low in
    let high = c.in_ok-cert-2.ensures.looks bounds (past bounds partition.variable partition.at) is.1.high in
    omega (arith, same, sum, low, high, c.in_ok-found.ensures.looks)

pub returns-clause-looks : goal.returns-clause-looks
returns-clause-looks t c = λ whole ranges part_is.
    let bounds = c.in-Open.bounds.items in
    let partition = c.in-Cut.partition in
    let is = rw (c.in-Cut.is, c.as_slice.ensures.value) at c.in_ok-found.ensures.step in
    let own = rw c.in-Open.is at part_is in
    let same : points_of bounds ≡ points_of ranges = ap points_of own.0 in
    let sum = points_add bounds partition.variable partition.at is.1.can in
    let low = c.in_ok-cert.ensures.looks bounds (up_to bounds partition.variable partition.at) is.1.low in
    let high = c.in_ok-cert-2.ensures.looks bounds (past bounds partition.variable partition.at) is.1.high in
    omega (arith, same, sum, low, high, c.in_ok-found.ensures.looks)
