use Rattle.std.proofs.Common.{◌+◌, ◌*◌, ◌<◌, length, refl, arith}
use Rattle.difference_solver.specs.Ranges.{HasRanges}
use Rattle.difference_solver.proofs.Places.{filled}
use Rattle.difference_solver.proofs.ranges.range_distances.Goals as goal

pub returns : goal.returns
returns c =
    let bounds = c.bounds-bounds.result.now in
    let rows = length c.rows.result.now in
    let size = length bounds + 1 in
    let has : HasRanges bounds rows c.new.result = rw c.new.ensures (filled bounds rows size c.loop-place.items.items refl (λ k (lt : k < size * size). c.loop-place.invariant.each k (omega (arith, lt, c.loop-place-test.false)))) in
    record { ranges = rw (c.bounds-bounds.ensures, c.rows.ensures.rows) at has; system = c.rows.ensures.system }
