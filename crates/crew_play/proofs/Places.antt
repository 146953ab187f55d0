-- What holds of each item of a list by its place, once an item is another, comes or goes.
use Rattle.std.proofs.Common.{◌≡◌, ℕ, ◌+◌, ◌<◌, List, [], ◌∷◌, ◌++◌, length, set, get_or, sym, ap, ◌∙◌, subst, arith, length-append, length-set, get_or-set_other}
use Rattle.std.proofs.Math.Seq.{get_or-append_seam}
use Rattle.std.proofs.lemmas.Grind.{get_or-set_at}
use Rattle.std.proofs.lemmas.List.{get_or_append_left}
use mathlib.Core.Logic.{dite}
use native.Mathlib.Decide.{ℕ_discrete}

abbrev pub EachPlace : {X : Type 0} → (ℕ → X → Type 0) → List X → Type 0
EachPlace {X} P xs = (k : ℕ) (d : X) → k < length xs → P k (get_or xs k d)

module _ {X : Type 0} (P : ℕ → X → Type 0) where
  module _ (xs : List X) (at : ℕ) (x : X) (inside : at < length xs) (is : P at x) where
    -- below some place, and at it
    pub holds_below : ((k : ℕ) (d : X) → k < at → P k (get_or xs k d)) → (k : ℕ) (d : X) → k < at + 1 → P k (get_or (set xs at x) k d)
    holds_below each k d low = dite (ℕ_discrete k at)
        (λ hit. subst (P k) (sym (get_or-set_at xs at k x d hit inside)) (subst (λ j. P j x) (sym hit) is))
        (λ miss. subst (P k) (sym (get_or-set_other xs at k x d miss)) (each k d (omega arith)))

    pub holds_with : EachPlace P xs → EachPlace P (set xs at x)
    holds_with each k d low = dite (ℕ_discrete k at)
        (λ hit. subst (P k) (sym (get_or-set_at xs at k x d hit inside)) (subst (λ j. P j x) (sym hit) is))
        (λ miss. subst (P k) (sym (get_or-set_other xs at k x d miss)) (each k d (let same = length-set xs at x in omega arith)))

  module _ (xs : List X) (x : X) where
    long : length (xs ++ x ∷ []) ≡ length xs + 1
    long = length-append xs (x ∷ [])

    -- one item more
    pub holds_more : EachPlace P xs → P (length xs) x → EachPlace P (xs ++ x ∷ [])
    holds_more each is k d low = dite (ℕ_discrete k (length xs))
        (λ hit. subst (P k) (sym (ap (λ j. get_or (xs ++ x ∷ []) j d) hit ∙ get_or-append_seam xs x [] d)) (subst (λ j. P j x) (sym hit) is))
        (λ miss. let count = long in let early : k < length xs = omega arith in subst (P k) (sym (get_or_append_left xs (x ∷ []) d k early)) (each k d early))

    -- one less
    pub holds_less : EachPlace P (xs ++ x ∷ []) → EachPlace P xs
    holds_less each k d low = subst (P k) (get_or_append_left xs (x ∷ []) d k low) (each k d (let count = long in omega arith))

    -- of the last
    pub holds_last : EachPlace P (xs ++ x ∷ []) → P (length xs) x
    holds_last each = subst (P (length xs)) (get_or-append_seam xs x [] x) (each (length xs) x (let count = long in omega arith))
