-- A list with one more at its end.
use Rattle.std.proofs.Common.{◌≡◌, ◌<◌, ◌≤◌, ◌+◌, ℕ, List, [], ◌∷◌, ◌++◌, length, length-set, get_or, set, ◌⊎◌, zero, suc, refl, sym, subst, ⊎_elim, arith}
use Rattle.std.proofs.lemmas.Bool.{cases_lt, cases_order}
use Rattle.std.proofs.lemmas.List.{get_or-set_other, get_or-set_same}

-- what holds of each by its place holds of one more
pub each_pushed : {X : Type 0} (P : ℕ → X → Type 0) (xs ys : List X) (x : X) → ys ≡ xs ++ x ∷ [] → ((k : ℕ) (d : X) → k < length xs → P k (get_or xs k d)) → P (length xs) x
    → (k : ℕ) (d : X) → k < length ys → P k (get_or ys k d)
each_pushed {X} P xs ys x is each last k d inside =
    subst (λ (l : List X). P k (get_or l k d)) (sym is) (by_place (subst (λ (l : List X). k < length l) is inside))
  where
    long : (l : List X) → length (l ++ x ∷ []) ≡ length l + 1
    long [] = refl
    long (y ∷ l) = let rest = long l in omega arith

    at_early : (l : List X) (i : ℕ) → i < length l → get_or l i d ≡ get_or (l ++ x ∷ []) i d
    at_early [] i less = absurd (omega arith)
    at_early (y ∷ l) zero less = refl
    at_early (y ∷ l) (suc i) less = at_early l i (omega arith)

    at_end : (l : List X) → x ≡ get_or (l ++ x ∷ []) (length l) d
    at_end [] = refl
    at_end (y ∷ l) = at_end l

    by_place : k < length (xs ++ x ∷ []) → P k (get_or (xs ++ x ∷ []) k d)
    by_place less = ⊎_elim (λ (early : k < length xs). subst (P k) (at_early xs k early) (each k d early))
        (λ (late : length xs ≤ k). let count = long xs in let same : length xs ≡ k = omega arith in subst (λ i. P i (get_or (xs ++ x ∷ []) i d)) same (subst (P (length xs)) (at_end xs) last))
        (cases_lt k (length xs))

-- what holds of each by its place holds with another in one place
pub each_set : {X : Type 0} (P : ℕ → X → Type 0) (xs : List X) (i : ℕ) (x : X) → ((k : ℕ) (d : X) → k < length xs → P k (get_or xs k d)) → i < length xs → P i x
    → (k : ℕ) (d : X) → k < length (set xs i x) → P k (get_or (set xs i x) k d)
each_set {X} P xs i x each there one k d inside =
    ⊎_elim (λ (same : k ≡ i). subst (λ j. P j (get_or (set xs i x) j d)) (sym same) (subst (P i) (sym (get_or-set_same xs i x d there)) one))
    (λ (apart : (k < i) ⊎ (i < k)). subst (P k) (sym (get_or-set_other xs i k x d (λ same. differ same apart))) (each k d (let long = length-set xs i x in omega arith)))
    (cases_order k i)
  where
    differ : k ≡ i → (k < i) ⊎ (i < k) → ⊥
    differ same apart = ⊎_elim (λ (low : k < i). omega arith) (λ (high : i < k). omega arith) apart
