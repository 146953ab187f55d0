-- Items by their place: the first that passes, and what holds of each.
use Rattle.std.proofs.Common.{◌≡◌, ℕ, zero, suc, ◌<◌, Bool, true, false, cond, List, [], ◌∷◌, ◌++◌, length, drop, replicate, set, get_or, slice_get, find, All, IfSome, Some, refl, sym, ap, ◌∙◌, subst, arith}
use Rattle.std.proofs.lemmas.Option.{get_or_from_slice_get, slice_get_within}
use Rattle.round_model.specs.Moves.{without_first}

pub find-drop : {X : Type 0} (p : X → Bool) (xs : List X) (at : ℕ) (d : X) → at < length xs → p (get_or xs at d) ≡ true → find p (drop at xs) ≡ slice_get xs at
find-drop p [] at d inside passes = absurd (omega arith)
find-drop p (x ∷ xs) zero d inside passes = ap (λ b. cond b (Some x) (find p xs)) passes
find-drop p (x ∷ xs) (suc at) d inside passes = find-drop p xs at d (omega arith) passes

-- what holds of each item holds of the one in a place
pub All-at : {X : Type 0} (P : X → Type 0) (xs : List X) → All P xs → (at : ℕ) (x : X) → slice_get xs at ≡ Some x → P x
All-at P xs each at x is = subst P (get_or_from_slice_get xs at x x is) (each at x (slice_get_within xs at x is))

-- what holds of each item holds of the one that is found
pub find-All : {X : Type 0} (test : X → Bool) (P : X → Type 0) (xs : List X) → All P xs → IfSome (find test xs) P
find-All test P [] each = tt
find-All test P (x ∷ xs) each =
    elim (test x) as (λ b. IfSome (cond b (Some x) (find test xs)) P) [
      | true ↦ each 0 x (omega arith)
      | false ↦ find-All test P xs (λ k d inside. each (suc k) d (omega arith))
    ]

-- what is found passes
pub find-passes : {X : Type 0} (test : X → Bool) (xs : List X) (x : X) → find test xs ≡ Some x → test x ≡ true
find-passes test [] x is = absurd (cc)
find-passes test (y ∷ ys) x is =
    elim (test y) as (λ b. test y ≡ b → cond b (Some y) (find test ys) ≡ Some x → test x ≡ true) [
      | true ↦ λ e found. let same : y ≡ x = cc in ap test (sym same) ∙ e
      | false ↦ λ e found. find-passes test ys x found
    ] refl is

-- items at the end don't change what is found, nor what is left in front of them
pub find-append : {X : Type 0} (test : X → Bool) (xs ys : List X) (x : X) → find test xs ≡ Some x → find test (xs ++ ys) ≡ Some x
find-append test [] ys x is = absurd (cc)
find-append test (y ∷ rest) ys x is =
    elim (test y) as (λ b. cond b (Some y) (find test rest) ≡ Some x → cond b (Some y) (find test (rest ++ ys)) ≡ Some x) [
      | true ↦ λ found. found
      | false ↦ λ found. find-append test rest ys x found
    ] is

pub without_first-append : {X : Type 0} (test : X → Bool) (xs ys : List X) (x : X) → find test xs ≡ Some x → without_first test (xs ++ ys) ≡ without_first test xs ++ ys
without_first-append test [] ys x is = absurd (cc)
without_first-append test (y ∷ rest) ys x is =
    elim (test y) as (λ b. cond b (Some y) (find test rest) ≡ Some x → cond b (rest ++ ys) (y ∷ without_first test (rest ++ ys)) ≡ cond b rest (y ∷ without_first test rest) ++ ys) [
      | true ↦ λ found. refl
      | false ↦ λ found. ap (λ (items : List _). y ∷ items) (without_first-append test rest ys x found)
    ] is

-- one place more filled from the front
pub fill_front : {X : Type 0} (n : ℕ) (x y : X) (ys : List X) → set (replicate n x ++ y ∷ ys) n x ≡ replicate (suc n) x ++ ys
fill_front zero x y ys = refl
fill_front (suc n) x y ys = ap (λ (rest : List _). x ∷ rest) (fill_front n x y ys)
