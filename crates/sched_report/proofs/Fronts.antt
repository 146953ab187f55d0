-- Lists item by item.
use Rattle.std.proofs.Common.{◌≡◌, ℕ, zero, suc, List, [], ◌∷◌, ◌++◌, Some, All, map, take, ap, arith}
use Rattle.std.specs.Prelude.{slice_get}

-- the items up to a place, and the one there
pub take_next : {X : Type 0} (xs : List X) (at : ℕ) (x : X) → slice_get xs at ≡ Some x → take (suc at) xs ≡ take at xs ++ x ∷ []
take_next [] at x is = absurd (cc)
take_next (y ∷ ys) zero x is = let same : y ≡ x = cc in ap (λ z. z ∷ []) same
take_next (y ∷ ys) (suc at) x is = ap (λ rest. y ∷ rest) (take_next ys at x is)

-- what holds of what is made of each item
pub All-map : {X Y : Type 0} (P : Y → Type 0) (f : X → Y) (xs : List X) → All (λ x. P (f x)) xs → All P (map f xs)
All-map P f [] each k d inside = absurd (omega arith)
All-map P f (x ∷ xs) each zero d inside = each 0 x (omega arith)
All-map P f (x ∷ xs) each (suc k) d inside = All-map P f xs (λ j e there. each (suc j) e (omega arith)) k d (omega arith)
