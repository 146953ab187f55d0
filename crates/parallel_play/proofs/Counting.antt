-- What is counted, and what follows from it.
use Rattle.std.proofs.Common.{◌≡◌, ℕ, zero, suc, ◌<◌, ◌||◌, Bool, true, false, List, [], ◌∷◌, get_or, length, replicate, refl, ap, ◌∙◌, arith}
use Rattle.std.specs.List.{list_any}

module _ {X : Type 0} (test : X → Bool) where
  or_true : (b : Bool) → (b || true) ≡ true
  or_true true = refl
  or_true false = refl

  -- some item passes
  pub any_passes : (xs : List X) (k : ℕ) (d : X) → k < length xs → test (get_or xs k d) ≡ true → list_any test xs ≡ true
  any_passes [] k d inside passes = absurd (omega arith)
  any_passes (x ∷ xs) zero d inside passes = ap (λ b. b || list_any test xs) passes
  any_passes (x ∷ xs) (suc k) d inside passes = ap (λ b. test x || b) (any_passes xs k d (omega arith) passes) ∙ or_true (test x)

  -- or none does
  pub none_passes : (xs : List X) → ((j : ℕ) (d : X) → j < length xs → test (get_or xs j d) ≡ false) → list_any test xs ≡ false
  none_passes [] fails = refl
  none_passes (x ∷ xs) fails = ap (λ b. b || list_any test xs) (fails 0 x (omega arith)) ∙ none_passes xs (λ j d low. fails (suc j) d (omega arith))

-- of a row of false each place is false
pub all_false : (n id : ℕ) → get_or (replicate n false) id false ≡ false
all_false zero zero = refl
all_false zero (suc id) = refl
all_false (suc n) zero = refl
all_false (suc n) (suc id) = all_false n id
