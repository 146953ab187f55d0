-- How many items pass a test, once one of them is replaced.
use Rattle.std.proofs.Common.{◌≡◌, ℕ, zero, suc, ◌+◌, ◌<◌, Bool, true, false, cond, List, [], ◌∷◌, length, set, get_or, count_by, Option, None, IsSome, ap, arith}
use Rattle.std.proofs.lemmas.List.Sums.{sum_by-set}

-- a sum after one of its parts changed
changed_part : (sum new before after a b : ℕ) → new + before ≡ sum + after → before ≡ a → after ≡ b → new + a ≡ sum + b
changed_part sum new before after a b change was is = omega arith

-- an item that passes gives way to one that doesn't
pub count_by-set_fewer : {X : Type 0} (p : X → Bool) (xs : List X) (at : ℕ) (x d : X) → at < length xs → p (get_or xs at d) ≡ true
    → p x ≡ false → count_by p (set xs at x) + 1 ≡ count_by p xs
count_by-set_fewer p xs at x d inside was is =
    let sum = count_by p xs in let new = count_by p (set xs at x) in
    let change = changed_part sum new (cond (p (get_or xs at d)) 1 0) (cond (p x) 1 0) 1 0
    (sum_by-set (λ y. cond (p y) 1 0) xs at x d inside) (ap (λ b. cond b 1 0) was) (ap (λ b. cond b 1 0) is) in
    plain new sum change
  where
    plain : (a b : ℕ) → a + 1 ≡ b + 0 → a + 1 ≡ b
    plain a b e = omega arith

-- an item that doesn't pass gives way to one that does
pub count_by-set_more : {X : Type 0} (p : X → Bool) (xs : List X) (at : ℕ) (x d : X) → at < length xs → p (get_or xs at d) ≡ false
    → p x ≡ true → count_by p (set xs at x) ≡ count_by p xs + 1
count_by-set_more p xs at x d inside was is =
    let sum = count_by p xs in let new = count_by p (set xs at x) in
    let change = changed_part sum new (cond (p (get_or xs at d)) 1 0) (cond (p x) 1 0) 0 1
    (sum_by-set (λ y. cond (p y) 1 0) xs at x d inside) (ap (λ b. cond b 1 0) was) (ap (λ b. cond b 1 0) is) in
    plain new sum change
  where
    plain : (a b : ℕ) → a + 0 ≡ b + 1 → a ≡ b + 1
    plain a b e = omega arith

-- an item gives way to one of which the test says the same
pub count_by-set_same : {X : Type 0} (p : X → Bool) (xs : List X) (at : ℕ) (x d : X) → at < length xs → p x ≡ p (get_or xs at d)
    → count_by p (set xs at x) ≡ count_by p xs
count_by-set_same p xs at x d inside same =
    plain (count_by p (set xs at x)) (count_by p xs) (cond (p (get_or xs at d)) 1 0) (cond (p x) 1 0)
    (sum_by-set (λ y. cond (p y) 1 0) xs at x d inside) (ap (λ b. cond b 1 0) same)
  where
    plain : (a b before after : ℕ) → a + before ≡ b + after → after ≡ before → a ≡ b
    plain a b before after e same = omega arith

-- what is found at an index is found inside the list
pub found_inside : {X : Type 0} (xs : List (Option X)) (at : ℕ) → IsSome (get_or xs at None) → at < length xs
found_inside [] at found = absurd (cc)
found_inside (x ∷ xs) zero found = omega arith
found_inside (x ∷ xs) (suc at) found = let inside = found_inside xs at found in omega arith
