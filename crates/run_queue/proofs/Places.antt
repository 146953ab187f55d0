-- The items of a list by their places, after one more at its end, and without one of them.
use Rattle.std.proofs.Common.{◌≡◌, ◌≢◌, ℕ, zero, suc, ◌<◌, ◌≤◌, List, [], ◌∷◌, ◌++◌, length, drop, remove, slice_get, Some, None, ◌⊎◌, inl, inr, ⊎_elim, refl, ap, arith}
use Rattle.std.proofs.lemmas.Bool.{cases_lt}

module _ {X : Type 0} where
  -- an item stands in each place of the list
  pub item_at : (xs : List X) (k : ℕ) → k < length xs → (x : X) × (slice_get xs k ≡ Some x)
  item_at [] k inside = absurd (omega arith)
  item_at (x ∷ xs) zero inside = (x, refl)
  item_at (x ∷ xs) (suc k) inside = item_at xs k (omega arith)

  -- the items from a place on begin with the one in it
  pub drop_here : (xs : List X) (k : ℕ) (x : X) → slice_get xs k ≡ Some x → drop k xs ≡ x ∷ drop (suc k) xs
  drop_here [] k x is = absurd (cc)
  drop_here (y ∷ ys) zero x is = let same : y ≡ x = cc in ap (λ (z : X). z ∷ ys) same
  drop_here (y ∷ ys) (suc k) x is = drop_here ys k x is

  pub slice_get-append : (xs ys : List X) (k : ℕ) → k < length xs → slice_get (xs ++ ys) k ≡ slice_get xs k
  slice_get-append [] ys k inside = absurd (omega arith)
  slice_get-append (x ∷ xs) ys zero inside = refl
  slice_get-append (x ∷ xs) ys (suc k) inside = slice_get-append xs ys k (omega arith)

  pub slice_get-push : (xs : List X) (y : X) → slice_get (xs ++ y ∷ []) (length xs) ≡ Some y
  slice_get-push [] y = refl
  slice_get-push (x ∷ xs) y = slice_get-push xs y

  pub slice_get-past_push : (xs : List X) (y : X) → slice_get (xs ++ y ∷ []) (suc (length xs)) ≡ None
  slice_get-past_push [] y = refl
  slice_get-past_push (x ∷ xs) y = slice_get-past_push xs y

  -- an item of the longer list is one of the list or the one at the end
  pub pushed_cases : (xs : List X) (y z : X) (k : ℕ) → slice_get (xs ++ y ∷ []) k ≡ Some z
      → ((k < length xs) × (slice_get xs k ≡ Some z)) ⊎ ((k ≡ length xs) × (y ≡ z))
  pushed_cases [] y z zero is = inr (refl, cc)
  pushed_cases [] y z (suc k) is = absurd (cc)
  pushed_cases (x ∷ xs) y z zero is = inl (omega arith, is)
  pushed_cases (x ∷ xs) y z (suc k) is =
      ⊎_elim
      (λ (h : (k < length xs) × (slice_get xs k ≡ Some z)). inl (let l = h.0 in omega arith, h.1))
      (λ (h : (k ≡ length xs) × (y ≡ z)). inr (ap suc h.0, h.1))
      (pushed_cases xs y z k is)

-- where an item stood that stands in place k, before place `gone` was left out
abbrev pub place_before : ℕ → ℕ → ℕ
place_before zero k = suc k
place_before (suc gone) zero = zero
place_before (suc gone) (suc k) = suc (place_before gone k)

pub place_before-less : (gone k : ℕ) → k < gone → place_before gone k ≡ k
place_before-less zero k less = absurd (omega arith)
place_before-less (suc gone) zero less = refl
place_before-less (suc gone) (suc k) less = ap suc (place_before-less gone k (omega arith))

pub place_before-more : (gone k : ℕ) → gone ≤ k → place_before gone k ≡ suc k
place_before-more zero k more = refl
place_before-more (suc gone) zero more = absurd (omega arith)
place_before-more (suc gone) (suc k) more = ap suc (place_before-more gone k (omega arith))

-- no item stood in the place that was left out
pub place_before-gone : (gone k : ℕ) → place_before gone k ≢ gone
place_before-gone gone k same =
    ⊎_elim
    (λ (less : k < gone). let is = place_before-less gone k less in omega arith)
    (λ (more : gone ≤ k). let is = place_before-more gone k more in omega arith)
    (cases_lt k gone)

-- two items stood apart
pub place_before-apart : (gone i j : ℕ) → i ≢ j → place_before gone i ≢ place_before gone j
place_before-apart zero i j apart same = apart (omega arith)
place_before-apart (suc gone) zero zero apart same = apart refl
place_before-apart (suc gone) zero (suc j) apart same = omega arith
place_before-apart (suc gone) (suc i) zero apart same = omega arith
place_before-apart (suc gone) (suc i) (suc j) apart same = place_before-apart gone i j (λ e. apart (ap suc e)) (omega arith)

pub slice_get-remove : {X : Type 0} (xs : List X) (gone k : ℕ) → slice_get (remove xs gone) k ≡ slice_get xs (place_before gone k)
slice_get-remove [] zero k = refl
slice_get-remove [] (suc gone) k = refl
slice_get-remove (x ∷ xs) zero k = refl
slice_get-remove (x ∷ xs) (suc gone) zero = refl
slice_get-remove (x ∷ xs) (suc gone) (suc k) = slice_get-remove xs gone k
