-- Sums of whole numbers, which have no range.
use Rattle.std.specs.Prelude.{List, [], ◌∷◌, ℤ, pos, ◌+ℤ◌}

-- the sum of a whole number for each item
abbrev pub sum_over : {X : Type 0} → (X → ℤ) → List X → ℤ
sum_over f [] = pos 0
sum_over f (x ∷ rest) = f x +ℤ sum_over f rest
