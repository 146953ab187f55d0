-- Lists of numbers times factors, and the factors with which two coefficients cancel.
use Rattle.std.specs.Prelude.{◌≡◌, ℕ, zero, suc, ◌≤◌, ◌%◌, ◌==◌, ◌&&◌, if◌then◌else◌, List, [], ◌∷◌, All, Option, Some}
use Rattle.std.specs.Prelude.{None, ℤ, pos, ◌+ℤ◌, ◌*ℤ◌, unsigned_abs}

-- the greatest number up to `most` that divides both, and 1 if there is none
unfoldable pub divisor_up_to : ℕ → ℕ → ℕ → ℕ
divisor_up_to zero a b = 1
divisor_up_to (suc most) a b = if (a % suc most == 0) && (b % suc most == 0) then suc most else divisor_up_to most a b

-- the greatest common divisor
unfoldable pub gcd : ℕ → ℕ → ℕ
gcd a b = divisor_up_to a a b

-- the magnitude is at most `most`
abbrev pub IsAtMost : ℕ → ℤ → Type 0
IsAtMost most number = unsigned_abs number ≤ most

-- two lists added up, the one times x and the other times y
abbrev pub added : ℕ → ℕ → List ℤ → List ℤ → List ℤ
added x y [] right = []
added x y (a ∷ left) [] = []
added x y (a ∷ left) (b ∷ right) = (a *ℤ pos x +ℤ b *ℤ pos y) ∷ added x y left right

-- what is known of the sum of two lists, which is given only if no number in it is over `most`
abbrev pub AddedWithin : ℕ → ℕ → ℕ → List ℤ → List ℤ → Option (List ℤ) → Type 0
AddedWithin most x y left right None = All (IsAtMost most) (added x y left right) → ⊥
AddedWithin most x y left right (Some sums) = (sums ≡ added x y left right) × All (IsAtMost most) sums
