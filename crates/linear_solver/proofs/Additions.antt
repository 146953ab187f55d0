-- Two lists added up, place by place.
use Rattle.std.proofs.Common.{◌≡◌, ℕ, zero, suc, ◌<◌, List, [], ◌∷◌, length, get_or, ℤ, pos, ◌+ℤ◌, ◌*ℤ◌, ap, refl, arith}
use Rattle.linear_solver.specs.Sums.{added}

pub length-added : (x y : ℕ) (left right : List ℤ) → length left ≡ length right → length (added x y left right) ≡ length left
length-added x y [] right same = refl
length-added x y (a ∷ left) [] same = absurd (omega arith)
length-added x y (a ∷ left) (b ∷ right) same = ap suc (length-added x y left right (omega arith))

pub get_or-added : (x y : ℕ) (left right : List ℤ) (i : ℕ) (c d e : ℤ) → i < length left → i < length right → get_or (added x y left right) i e ≡ get_or left i c *ℤ pos x +ℤ get_or right i d *ℤ pos y
get_or-added x y [] right i c d e l r = absurd (omega arith)
get_or-added x y (a ∷ left) [] i c d e l r = absurd (omega arith)
get_or-added x y (a ∷ left) (b ∷ right) zero c d e l r = refl
get_or-added x y (a ∷ left) (b ∷ right) (suc i) c d e l r = get_or-added x y left right i c d e (omega arith) (omega arith)
