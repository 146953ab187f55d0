-- The variables that are kept, and their places among them.
use Rattle.std.proofs.Common.{◌≡◌, ℕ, zero, suc, ◌<◌, eqb, ℤ, Bool, true, false, cond, List, [], ◌∷◌, ◌++◌, length, get_or, refl, sym, ap, ◌∙◌, subst, arith, eqb-true, ◌⊎◌, inl, inr, ⊎_elim}
use Rattle.std.proofs.lemmas.Bool.{eqb-false}
use Rattle.std.specs.List.{AllByRecursion}
use Rattle.std.proofs.Math.Seq.{get_or-append_seam}
use Rattle.std.proofs.lemmas.List.{get_or_append_left, length-append}
use Rattle.obligations.specs.Systems.{kept_below, place_of}

-- what holds of all items of two lists holds of all items of both
pub AllByRecursion-append : {X : Type 0} (P : X → Type 0) (xs ys : List X) → AllByRecursion P xs → AllByRecursion P ys → AllByRecursion P (xs ++ ys)
AllByRecursion-append P [] ys all more = more
AllByRecursion-append P (x ∷ xs) ys all more = (all.0, AllByRecursion-append P xs ys all.1 more)

pub AllByRecursion-mono : {X : Type 0} (P Q : X → Type 0) → ((x : X) → P x → Q x) → (xs : List X) → AllByRecursion P xs → AllByRecursion Q xs
AllByRecursion-mono P Q more [] all = tt
AllByRecursion-mono P Q more (x ∷ xs) all = (more x all.0, AllByRecursion-mono P Q more xs all.1)

last_or_below : (v n : ℕ) → v < suc n → (v ≡ n) ⊎ (v < n)
last_or_below v n lt = by (eqb v n) refl
  where
    by : (b : Bool) → eqb v n ≡ b → (v ≡ n) ⊎ (v < n)
    by true e = inl (eqb-true v n e)
    by false e = let other : v ≡ n → ⊥ = eqb-false v n e in inr (omega (arith, other))

module _ (keeps : ℕ → Bool) where
  -- the greatest of the variables that are asked about
  last_kept : (n d : ℕ) → keeps n ≡ true → get_or (kept_below keeps (suc n)) (place_of keeps n) d ≡ n
  last_kept n d kept =
      ap (λ b. get_or (kept_below keeps n ++ cond b (n ∷ []) []) (place_of keeps n) d) kept ∙ get_or-append_seam (kept_below keeps n) n [] d

  last_place : (n : ℕ) → keeps n ≡ true → place_of keeps n < length (kept_below keeps (suc n))
  last_place n kept =
      let long = length-append (kept_below keeps n) (cond (keeps n) (n ∷ []) []) in
      let one : length (cond (keeps n) (n ∷ []) []) ≡ 1 = ap (λ b. length (cond b (n ∷ []) [])) kept in
      omega arith

  -- the place of a kept variable is one among the kept ones
  pub place_inside : (n v : ℕ) → v < n → keeps v ≡ true → place_of keeps v < length (kept_below keeps n)
  place_inside zero v lt kept = absurd (omega arith)
  place_inside (suc n) v lt kept =
      let Inside : ℕ → Type 0 = λ k. place_of keeps v < length (kept_below keeps (suc k)) in
      ⊎_elim
      (λ (same : v ≡ n). subst Inside same (last_place v kept))
      (λ (below : v < n).
      let earlier = place_inside n v below kept in
      let long = length-append (kept_below keeps n) (cond (keeps n) (n ∷ []) []) in
      omega arith)
      (last_or_below v n lt)

  -- and the variable stands there
  pub kept_at : (n v d : ℕ) → v < n → keeps v ≡ true → get_or (kept_below keeps n) (place_of keeps v) d ≡ v
  kept_at zero v d lt kept = absurd (omega arith)
  kept_at (suc n) v d lt kept =
      ⊎_elim
      (λ (same : v ≡ n). subst (λ k. get_or (kept_below keeps (suc k)) (place_of keeps v) d ≡ v) same (last_kept v d kept))
      (λ (below : v < n).
      get_or_append_left (kept_below keeps n) (cond (keeps n) (n ∷ []) []) d (place_of keeps v) (place_inside n v below kept)
      ∙ kept_at n v d below kept)
      (last_or_below v n lt)

  -- the variable is kept, and below that number
  abbrev pub IsKept : ℕ → ℕ → Type 0
  IsKept n v = (keeps v ≡ true) × (v < n)

  -- each of the kept ones is
  pub all_kept : (n : ℕ) → AllByRecursion (IsKept n) (kept_below keeps n)
  all_kept zero = tt
  all_kept (suc n) =
      AllByRecursion-append (IsKept (suc n)) (kept_below keeps n) (cond (keeps n) (n ∷ []) [])
      (AllByRecursion-mono (IsKept n) (IsKept (suc n)) (λ v is. (is.0, omega (arith, is.1))) (kept_below keeps n) (all_kept n))
      (by (keeps n) refl)
    where
      by : (b : Bool) → keeps n ≡ b → AllByRecursion (IsKept (suc n)) (cond b (n ∷ []) [])
      by true e = ((e, omega arith), tt)
      by false e = tt

-- the values of the variables below a number
abbrev pub first_values : (ℕ → ℤ) → ℕ → List ℤ
first_values f zero = []
first_values f (suc n) = first_values f n ++ f n ∷ []

pub length-first_values : (f : ℕ → ℤ) (n : ℕ) → length (first_values f n) ≡ n
length-first_values f zero = refl
length-first_values f (suc n) = let long = length-append (first_values f n) (f n ∷ []) in let rest = length-first_values f n in omega arith

pub first_values-at : (f : ℕ → ℤ) (n v : ℕ) (d : ℤ) → v < n → get_or (first_values f n) v d ≡ f v
first_values-at f zero v d lt = absurd (omega arith)
first_values-at f (suc n) v d lt =
    let long = length-first_values f n in
    ⊎_elim
    (λ (same : v ≡ n).
    ap (λ k. get_or (first_values f n ++ f n ∷ []) k d) (same ∙ sym long)
    ∙ (get_or-append_seam (first_values f n) (f n) [] d ∙ ap f (sym same)))
    (λ (below : v < n).
    get_or_append_left (first_values f n) (f n ∷ []) d v (omega arith) ∙ first_values-at f n v d below)
    (last_or_below v n lt)
