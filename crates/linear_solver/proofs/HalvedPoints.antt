-- The points of a box that is cut are those of its two parts.
use Rattle.std.proofs.Common.{◌≡◌, ℕ, zero, suc, ◌+◌, ◌*◌, ◌<◌, ◌≤◌, List, [], ◌∷◌, length, slice_set, ℤ, pos, ◌+ℤ◌, ◌-ℤ◌, ◌≤ℤ◌, ◌<ℤ◌, unsigned_abs, sym, ap, ◌∙◌, refl, arith}
use Rattle.std.proofs.lemmas.Int.{ints}
use Rattle.linear_form.specs.declared.form.Bound.{Bound}
use Rattle.linear_form.specs.Points.{points_of, size_of}
use Rattle.linear_cert.specs.Right.{CanBeCut, part_past, part_up_to, past, range_of, up_to}

sizes_add : (range : Bound) (at : ℤ) → range.lo ≤ℤ at → at <ℤ range.hi → size_of (part_up_to range at) + size_of (part_past range at) ≡ size_of range
sizes_add range at from below = omega (arith, ints)

-- two ranges in the place of one that has as many numbers
parts_add : (bounds : List Bound) (variable : ℕ) (low high : Bound) → variable < length bounds → size_of low + size_of high ≡ size_of (range_of bounds variable)
    → points_of (slice_set bounds variable low) + points_of (slice_set bounds variable high) ≡ points_of bounds
parts_add [] variable low high below sum = absurd (omega arith)
parts_add (range ∷ rest) zero low high below sum = omega (arith, ap (λ n. n * points_of rest) sum)
parts_add (range ∷ rest) (suc variable) low high below sum =
    omega (arith, ap (λ n. size_of range * n) (parts_add rest variable low high (omega arith) sum))

pub points_add : (bounds : List Bound) (variable : ℕ) (at : ℤ) → CanBeCut bounds variable at → points_of (up_to bounds variable at) + points_of (past bounds variable at) ≡ points_of bounds
points_add bounds variable at can =
    parts_add bounds variable (part_up_to (range_of bounds variable) at) (part_past (range_of bounds variable) at) can.known
    (sizes_add (range_of bounds variable) at can.from can.below)
