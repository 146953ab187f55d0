-- Numbers one behind another: one more at their end, and how long they are.
use Rattle.std.proofs.Common.{◌≡◌, ◌+◌, ◌<◌, ◌≤◌, ℕ, List, [], ◌∷◌, ◌++◌, take, length, get_or, ap, sym, ◌∙◌, arith, append-nil, length-append, refl}
use Rattle.std.specs.List.{flat_map}
use Rattle.std.proofs.lemmas.List.{append_assoc, flat_map_more, take_more}
use Rattle.std.proofs.lemmas.List.Folds.{length-flat_map-take}
use Rattle.sched_history.specs.Spelling.{spaced, spaced_number}

-- the next number is added behind those before it
pub spaced-take-more : (before numbers : List ℕ) (at : ℕ) → at < length numbers →
    (before ++ spaced (take at numbers)) ++ spaced_number (get_or numbers at 0) ≡ before ++ spaced (take (at + 1) numbers)
unfolding spaced
spaced-take-more before numbers at within =
    flat_map_more spaced_number before (take at numbers) (get_or numbers at 0)
    ∙ ap (λ (front : List ℕ). before ++ flat_map spaced_number front) (sym (take_more numbers at 0 within))

-- behind a front of the numbers there is room for a byte more than before all of them
pub length-spaced-take : (before numbers : List ℕ) (at : ℕ) → at < length numbers →
    length (before ++ spaced (take at numbers)) + 1 ≤ length before + length (spaced numbers)
unfolding spaced
length-spaced-take before numbers at within =
    let whole = length-flat_map-take spaced_number numbers at 0 within in
    let parts = length-append before (flat_map spaced_number (take at numbers)) in
    omega (arith, whole, parts)

-- two numbers, and those behind them
pub spaced-behind-two : (a b : ℕ) (rest : List ℕ) → spaced (a ∷ b ∷ rest) ≡ spaced (a ∷ b ∷ []) ++ spaced rest
unfolding spaced
spaced-behind-two a b rest = parts (spaced_number a) (spaced_number b) (flat_map spaced_number rest)
  where
    parts : (x y z : List ℕ) → x ++ (y ++ z) ≡ (x ++ (y ++ [])) ++ z
    parts x y z = simp (append_assoc, append-nil) refl
