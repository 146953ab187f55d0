-- Items of lists: what a filter leaves passes, and what holds of all numbers of a range holds of each.
use Rattle.std.proofs.Common.{◌≡◌, ◌≢◌, ℕ, zero, suc, ◌+◌, ◌<◌, ◌≤◌, eqb, Bool, true, false, cond, List, [], ◌∷◌, filter, Contains, refl, sym, ap, ◌∙◌, subst, arith}
use Rattle.std.specs.List.{AllByRecursion, range_with_len}
use Rattle.std.proofs.lemmas.Bool.Decides.{nat_tests}

-- the items that a filter leaves pass
pub filtered_pass : {X : Type 0} (test : X → Bool) (xs : List X) (x : X) → Contains (filter test xs) x → test x ≡ true
filtered_pass test [] x (k, inside, is) = absurd (omega arith)
filtered_pass {X} test (y ∷ ys) x among = at_front (filtered_pass test ys x) (test y) refl among
  where
    at_front : (Contains (filter test ys) x → test x ≡ true) → (b : Bool) → test y ≡ b → Contains (cond b (y ∷ filter test ys) (filter test ys)) x → test x ≡ true
    at_front behind true passes (zero, inside, is) = ap test (sym is) ∙ passes
    at_front behind true passes (suc k, inside, is) = behind (k, omega arith, is)
    at_front behind false fails rest = behind rest

-- where a filter leaves nothing no item passes
pub none_filtered : {X : Type 0} (test : X → Bool) (xs : List X) → filter test xs ≡ [] → AllByRecursion (λ x. test x ≡ false) xs
none_filtered test [] is = tt
none_filtered test (x ∷ xs) is =
    elim (test x) as (λ b. test x ≡ b → cond b (x ∷ filter test xs) (filter test xs) ≡ [] → (test x ≡ false) × AllByRecursion (λ y. test y ≡ false) xs) [
      | true ↦ λ passes left. absurd (cc)
      | false ↦ λ fails left. (fails, none_filtered test xs left)
    ] refl is

-- what holds of all numbers of a range holds of each
pub each_in_range : (P : ℕ → Type 0) (from n : ℕ) → AllByRecursion P (range_with_len from n) → (v : ℕ) → from ≤ v → v < from + n → P v
each_in_range P from zero all v low high = absurd (omega arith)
each_in_range P from (suc n) all v low high =
    elim (eqb from v) as (λ b. eqb from v ≡ b → P v) [
      | true ↦ λ is. let same : from ≡ v = grind (arith, nat_tests) in subst P same all.0
      | false ↦ λ is. let apart : from ≢ v = grind (arith, nat_tests) in each_in_range P (from + 1) n all.1 v (omega arith) (omega arith)
    ] refl
