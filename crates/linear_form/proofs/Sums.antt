-- Sums of whole numbers over a list and over its front.
use Rattle.std.proofs.Common.{◌≡◌, ℕ, zero, suc, ◌+◌, ◌<◌, List, [], ◌∷◌, length, get_or, take, ℤ, ◌+ℤ◌, arith, add-one}
use Rattle.std.proofs.lemmas.Int.{ints}
use Rattle.linear_form.specs.Sum.{sum_over}

sum_over_suc : {X : Type 0} (f : X → ℤ) (xs : List X) (i : ℕ) (d : X) → i < length xs → sum_over f (take (suc i) xs) ≡ sum_over f (take i xs) +ℤ f (get_or xs i d)
sum_over_suc f [] i d lt = absurd (omega arith)
sum_over_suc f (x ∷ xs) zero d lt = omega (arith, ints)
sum_over_suc f (x ∷ xs) (suc i) d lt = omega (arith, ints, sum_over_suc f xs i d (omega arith))

-- one more item of a front
pub sum_over_more : {X : Type 0} (f : X → ℤ) (xs : List X) (i : ℕ) (d : X) → i < length xs → sum_over f (take (i + 1) xs) ≡ sum_over f (take i xs) +ℤ f (get_or xs i d)
sum_over_more f xs i d lt = rw add-one (sum_over_suc f xs i d lt)
