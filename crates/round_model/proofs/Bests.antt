-- The best of a list is one of its items, and an item that alone passes is the one that is found.
use Rattle.std.proofs.Common.{◌≡◌, ℕ, zero, suc, ◌<◌, ◌≤◌, Bool, true, false, cond, List, [], ◌∷◌, find, count_by, get_or, length, Contains, IfSome, Option, Some, None, refl, ap, ◌∙◌, subst, arith}
use Rattle.std.proofs.lemmas.List.Sums.{sum_by-cons}
use Rattle.policy_eval.specs.Orders.{best_of, better_of}
use Rattle.round_model.proofs.Counting.{counted}
use Rattle.round_model.proofs.Owing.{some_counted}

-- the best of a list is one of its items
best_contained : {X : Type 0} (comes : X → X → Bool) (xs : List X) → IfSome (best_of comes xs) (Contains xs)
best_contained comes [] = tt
best_contained {X} comes (x ∷ xs) = with_rest (best_of comes xs) (best_contained comes xs)
  where
    first : Contains (x ∷ xs) x
    first = (0, omega arith, refl)

    later : (y : X) → Contains xs y → Contains (x ∷ xs) y
    later y (k, inside, is) = (suc k, omega arith, is)

    with_rest : (found : Option X) → IfSome found (Contains xs) → Contains (x ∷ xs) (better_of comes x found)
    with_rest None among = first
    with_rest (Some y) among = elim (comes y x) as (λ b. Contains (x ∷ xs) (cond b y x)) [ true ↦ later y among | false ↦ first ]

pub best_among : {X : Type 0} (comes : X → X → Bool) (xs : List X) (x : X) → best_of comes xs ≡ Some x → Contains xs x
best_among {X} comes xs x is = subst (λ (o : Option X). IfSome o (Contains xs)) is (best_contained comes xs)

-- a list without a best is empty
pub best_missing : {X : Type 0} (comes : X → X → Bool) (xs : List X) → best_of comes xs ≡ None → xs ≡ []
best_missing comes [] is = refl
best_missing comes (x ∷ xs) is = absurd (cc)

-- where no other item passes, one that does is the one that is found
pub found_alone : {X : Type 0} (test : X → Bool) (xs : List X) (x : X) → Contains xs x → test x ≡ true → count_by test xs ≤ 1 → find test xs ≡ Some x
found_alone {X} test xs x (k, inside, is) passes once = at_place xs k inside is once
  where
    at_place : (ys : List X) (k : ℕ) → k < length ys → get_or ys k x ≡ x → count_by test ys ≤ 1 → find test ys ≡ Some x
    at_place [] k inside is once = absurd (omega arith)
    at_place (y ∷ ys) zero inside is once = ap (λ b. cond b (Some y) (find test ys)) (ap test is ∙ passes) ∙ ap (λ z. Some z) is
    at_place (y ∷ ys) (suc k) inside is once =
        let cons = sum_by-cons (λ z. counted (test z)) y ys in
        let later = at_place ys k (omega arith) is (omega arith) in
        let some = some_counted test test ys x later passes in
        elim (test y) as (λ b. test y ≡ b → cond b (Some y) (find test ys) ≡ Some x) [
          | true ↦ λ own. absurd (let here : counted (test y) ≡ 1 = ap counted own in omega arith)
          | false ↦ λ own. later
        ] refl
