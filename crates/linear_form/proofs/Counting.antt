-- The number of points of ranges, range by range.
use Rattle.std.proofs.Common.{◌≡◌, ℕ, ◌+◌, ◌*◌, ◌<◌, ◌≤◌, List, [], ◌∷◌, length, drop, get_or, arith, ◌∙◌, sym, ap}
use Rattle.std.proofs.Math.Nat.{mul_assoc, one-le-mul, mul-le-mul_left}
use Rattle.std.proofs.lemmas.List.{at_drop_more}
use Rattle.linear_form.specs.declared.form.Bound.{Bound}
use Rattle.linear_form.specs.Points.{points_of, size_of}

-- there is a point
pub points_positive : (bounds : List Bound) → 1 ≤ points_of bounds
points_positive [] = omega arith
points_positive (bound ∷ rest) = one-le-mul (omega arith) (points_positive rest)

-- the points of the ranges that are left, when one more is taken
pub points_more : (bounds : List Bound) (at : ℕ) (d : Bound) (points size : ℕ) → at < length bounds
    → size ≡ size_of (get_or bounds at d)
    → points * size * points_of (drop (at + 1) bounds) ≡ points * points_of (drop at bounds)
points_more bounds at d points size inside is =
    mul_assoc points size (points_of (drop (at + 1) bounds))
    ∙ ap (λ n. points * n)
    (ap (λ n. n * points_of (drop (at + 1) bounds)) is ∙ sym (at_drop_more points_of bounds at d inside))

-- so many points and more, of the ranges that are left
pub points_past : (points : ℕ) (left : List Bound) → points ≤ points * points_of left
points_past points left = let e = mul-le-mul_left points (points_positive left) in omega (arith, e)
