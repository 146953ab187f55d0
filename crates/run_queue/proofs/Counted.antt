-- What a count of a list's items says of its items.
use Rattle.std.proofs.Common.{◌≡◌, ℕ, suc, ◌+◌, ◌<◌, ◌≤◌, Bool, true, false, cond, List, [], ◌∷◌, Contains, count_by, get_or, slice_get, Some, refl, ap, subst, ◌∙◌, arith}
use Rattle.std.proofs.lemmas.List.Sums.{get_or-le-sum_by, sum_by-cons}
use Rattle.std.proofs.lemmas.Option.{get_or_from_slice_get, slice_get-get_or, slice_get_within}

abbrev pub one_of : Bool → ℕ
one_of b = cond b 1 0

module _ {X : Type 0} where
  -- an item that passes
  pub record Passing (test : X → Bool) (xs : List X) : Type 0 where
    pub place : ℕ
    pub item : X
    pub at : slice_get xs place ≡ Some item
    pub passes : test item ≡ true

  -- where some are counted, one passes
  pub counted : (test : X → Bool) (xs : List X) → 0 < count_by test xs → Passing test xs
  counted test [] some = absurd (omega arith)
  counted test (x ∷ xs) some = with_head (test x) refl (subst (λ n. 0 < n) (sum_by-cons (λ y. one_of (test y)) x xs) some) (counted test xs)
    where
      behind : Passing test xs → Passing test (x ∷ xs)
      behind p = record { place = suc p.place; item = p.item; at = p.at; passes = p.passes }

      with_head : (b : Bool) → test x ≡ b → 0 < one_of (test x) + count_by test xs → (0 < count_by test xs → Passing test xs) → Passing test (x ∷ xs)
      with_head true is more later = record { place = 0; item = x; at = refl; passes = is }
      with_head false is more later = let none : one_of (test x) ≡ 0 = ap one_of is in behind (later (omega arith))

  -- where one passes, some are counted
  pub counts : (test : X → Bool) (xs : List X) (k : ℕ) (x : X) → slice_get xs k ≡ Some x → test x ≡ true → 0 < count_by test xs
  counts test xs k x at passes =
      let one : one_of (test x) ≡ 1 = ap one_of passes in
      let is : one_of (test (get_or xs k x)) ≡ one_of (test x) = ap (λ y. one_of (test y)) (get_or_from_slice_get xs k x x at) in
      let more : one_of (test (get_or xs k x)) ≤ count_by test xs = get_or-le-sum_by (λ y. one_of (test y)) xs k x (slice_get_within xs k x at) in
      omega arith

  -- an item that stands in a place is in the list, and one that is in the list stands in a place
  pub contains_at : (xs : List X) (k : ℕ) (x : X) → slice_get xs k ≡ Some x → Contains xs x
  contains_at xs k x at = (k, slice_get_within xs k x at, get_or_from_slice_get xs k x x at)

  pub stands_at : (xs : List X) (x : X) (in' : Contains xs x) → slice_get xs in'.0 ≡ Some x
  stands_at xs x in' = slice_get-get_or xs in'.0 x in'.1 ∙ ap (λ (y : X). Some y) in'.2
