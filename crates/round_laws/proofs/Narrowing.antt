-- A move of weight from the greater of two loads to the less, by less than they lie apart, lowers the spread by 2 at least.
use Rattle.std.proofs.Common.{◌≡◌, ◌≢◌, ℕ, zero, suc, ◌+◌, ◌-◌, ◌<◌, ◌≤◌, List, [], ◌∷◌, ◌++◌, map, sum_by, refl, sym, ap, ◌∙◌, append_assoc, arith, inl, inr}
use Rattle.std.specs.List.{range_with_len}
use Rattle.std.specs.Int.{abs_diff}
use Rattle.std.proofs.lemmas.List.{map-append}
use Rattle.std.proofs.lemmas.List.Sums.{sum_by-append, sum_by-cons}
use Rattle.std.proofs.lemmas.Bool.{cases_lt}
use Rattle.round_model.specs.Spread.{spread_of}

-- the distance of two numbers, either way round
abs_diff-sym : (x y : ℕ) → abs_diff x y ≡ abs_diff y x
abs_diff-sym x y = omega arith

-- one load taken out of the middle of a list
spread_of-middle : (xs : List ℕ) (y : ℕ) (ys : List ℕ) → spread_of (xs ++ y ∷ ys) ≡ sum_by (abs_diff y) (xs ++ ys) + spread_of (xs ++ ys)
spread_of-middle [] y ys = refl
spread_of-middle (x ∷ xs) y ys =
    let rest = spread_of-middle xs y ys in
    let one = sum_by-append (abs_diff x) xs (y ∷ ys) in
    let two = sum_by-cons (abs_diff x) y ys in
    let three = sum_by-append (abs_diff x) xs ys in
    let four = sum_by-cons (abs_diff y) x (xs ++ ys) in
    omega (arith, abs_diff-sym x y)

-- two loads taken out
spread_of-two : (xs : List ℕ) (y : ℕ) (ys : List ℕ) (z : ℕ) (zs : List ℕ) → let others = (xs ++ ys) ++ zs in
    spread_of (xs ++ y ∷ (ys ++ z ∷ zs)) ≡ abs_diff y z + sum_by (abs_diff y) others + sum_by (abs_diff z) others + spread_of others
spread_of-two xs y ys z zs =
    let first = spread_of-middle xs y (ys ++ z ∷ zs) in
    let second = spread_of-middle (xs ++ ys) z zs in
    let flat : xs ++ (ys ++ z ∷ zs) ≡ (xs ++ ys) ++ z ∷ zs = sym (append_assoc xs ys (z ∷ zs)) in
    let sums = ap (sum_by (abs_diff y)) flat in
    let spreads = ap spread_of flat in
    let one = sum_by-append (abs_diff y) (xs ++ ys) (z ∷ zs) in
    let two = sum_by-cons (abs_diff y) z zs in
    let three = sum_by-append (abs_diff y) (xs ++ ys) zs in
    omega arith

-- no other load is farther from the two after the move than before it
nearer : (low high weight x : ℕ) → low < high → abs_diff (low + weight) x + abs_diff high x ≤ abs_diff low x + abs_diff (high + weight) x
nearer low high weight x apart = omega arith

all_nearer : (low high weight : ℕ) (xs : List ℕ) → low < high
    → sum_by (abs_diff (low + weight)) xs + sum_by (abs_diff high) xs ≤ sum_by (abs_diff low) xs + sum_by (abs_diff (high + weight)) xs
all_nearer low high weight [] apart = omega arith
all_nearer low high weight (x ∷ xs) apart =
    let here = nearer low high weight x apart in
    let rest = all_nearer low high weight xs apart in
    let one = sum_by-cons (abs_diff (low + weight)) x xs in
    let two = sum_by-cons (abs_diff high) x xs in
    let three = sum_by-cons (abs_diff low) x xs in
    let four = sum_by-cons (abs_diff (high + weight)) x xs in
    omega arith

-- and the two come nearer by 2 at least
pair_nearer : (low high weight : ℕ) → low < high → 1 ≤ weight → abs_diff (low + weight) high + 2 ≤ abs_diff low (high + weight)
pair_nearer low high weight apart some = omega arith

-- the numbers from `from` on, around the one in place a
range_around : (from a n : ℕ) → a < n → range_with_len from n ≡ range_with_len from a ++ (from + a) ∷ range_with_len (from + a + 1) (n - a - 1)
range_around from a zero inside = absurd (omega arith)
range_around from zero (suc n) inside =
    ap (λ c. c ∷ range_with_len (c + 1) n) (omega arith) ∙ ap (λ k. (from + 0) ∷ range_with_len (from + 0 + 1) k) (omega arith)
range_around from (suc a) (suc n) inside =
    ap (λ rest. from ∷ rest) (range_around (from + 1) a n (omega arith))
    ∙ (ap (λ c. from ∷ (range_with_len (from + 1) a ++ c ∷ range_with_len (c + 1) (n - a - 1))) (omega arith)
    ∙ ap (λ k. from ∷ (range_with_len (from + 1) a ++ (from + suc a) ∷ range_with_len (from + suc a + 1) k)) (omega arith))

-- what is the same at each of those numbers
pub range_same : (f g : ℕ → ℕ) (from n : ℕ) → ((c : ℕ) → from ≤ c → c < from + n → g c ≡ f c) → map g (range_with_len from n) ≡ map f (range_with_len from n)
range_same f g from zero same = refl
range_same f g from (suc n) same =
    ap (λ x. x ∷ map g (range_with_len (from + 1) n)) (same from (omega arith) (omega arith))
    ∙ ap (λ rest. f from ∷ rest) (range_same f g (from + 1) n (λ c low high. same c (omega arith) (omega arith)))

loads_at : (f : ℕ → ℕ) (from a n at rest : ℕ) → a < n → from + a ≡ at → n - a - 1 ≡ rest
    → map f (range_with_len from n) ≡ map f (range_with_len from a) ++ f at ∷ map f (range_with_len (at + 1) rest)
loads_at f from a n at rest inside here behind =
    ap (map f) (range_around from a n inside)
    ∙ (map-append f (range_with_len from a) ((from + a) ∷ range_with_len (from + a + 1) (n - a - 1))
    ∙ (ap (λ c. map f (range_with_len from a) ++ f c ∷ map f (range_with_len (c + 1) (n - a - 1))) here
    ∙ ap (λ k. map f (range_with_len from a) ++ f at ∷ map f (range_with_len (at + 1) k)) behind))

-- the loads of the first n cores, around those of two
loads_around : (f : ℕ → ℕ) (n a b : ℕ) → a < b → b < n → map f (range_with_len 0 n)
    ≡ map f (range_with_len 0 a) ++ f a ∷ (map f (range_with_len (a + 1) (b - a - 1)) ++ f b ∷ map f (range_with_len (b + 1) (n - b - 1)))
loads_around f n a b apart inside =
    loads_at f 0 a n a (n - a - 1) (omega arith) (omega arith) refl
    ∙ ap (λ rest. map f (range_with_len 0 a) ++ f a ∷ rest) (loads_at f (a + 1) (b - a - 1) (n - a - 1) b (n - b - 1) (omega arith) (omega arith) (omega arith))

-- the others of these
abbrev others_of : (ℕ → ℕ) → (n a b : ℕ) → List ℕ
others_of f n a b = (map f (range_with_len 0 a) ++ map f (range_with_len (a + 1) (b - a - 1))) ++ map f (range_with_len (b + 1) (n - b - 1))

spread_around : (f : ℕ → ℕ) (n a b : ℕ) → a < b → b < n → spread_of (map f (range_with_len 0 n))
    ≡ abs_diff (f a) (f b) + sum_by (abs_diff (f a)) (others_of f n a b) + sum_by (abs_diff (f b)) (others_of f n a b) + spread_of (others_of f n a b)
spread_around f n a b apart inside =
    ap spread_of (loads_around f n a b apart inside)
    ∙ spread_of-two (map f (range_with_len 0 a)) (f a) (map f (range_with_len (a + 1) (b - a - 1))) (f b) (map f (range_with_len (b + 1) (n - b - 1)))

others_same : (f g : ℕ → ℕ) (n a b : ℕ) → a < b → b < n → ((c : ℕ) → c ≢ a → c ≢ b → g c ≡ f c) → others_of g n a b ≡ others_of f n a b
others_same f g n a b apart inside same =
    let before = range_same f g 0 a (λ c low high. same c (omega arith) (omega arith)) in
    let between = range_same f g (a + 1) (b - a - 1) (λ c low high. same c (omega arith) (omega arith)) in
    let behind = range_same f g (b + 1) (n - b - 1) (λ c low high. same c (omega arith) (omega arith)) in
    ap (λ xs. (xs ++ map g (range_with_len (a + 1) (b - a - 1))) ++ map g (range_with_len (b + 1) (n - b - 1))) before
    ∙ (ap (λ xs. (map f (range_with_len 0 a) ++ xs) ++ map g (range_with_len (b + 1) (n - b - 1))) between
    ∙ ap (λ xs. (map f (range_with_len 0 a) ++ map f (range_with_len (a + 1) (b - a - 1))) ++ xs) behind)

-- what is left of the spread: the distance of the two, and theirs to the others
abbrev spread_with : ℕ → ℕ → List ℕ → ℕ
spread_with y z others = abs_diff y z + sum_by (abs_diff y) others + sum_by (abs_diff z) others + spread_of others

narrower : (low high weight : ℕ) (others : List ℕ) → low < high → 1 ≤ weight
    → spread_with (low + weight) high others + 2 ≤ spread_with low (high + weight) others
narrower low high weight others apart some = omega (arith, pair_nearer low high weight apart some, all_nearer low high weight others apart)

spread_with-sym : (y z : ℕ) (others : List ℕ) → spread_with y z others ≡ spread_with z y others
spread_with-sym y z others = omega (arith, abs_diff-sym y z)

module _ (f g : ℕ → ℕ) (n : ℕ) where
  -- the loads of two cores are those, and the others stay
  changed : (a b low high : ℕ) → a < b → b < n → g a ≡ low → g b ≡ high → ((c : ℕ) → c ≢ a → c ≢ b → g c ≡ f c)
      → spread_of (map g (range_with_len 0 n)) ≡ spread_with low high (others_of f n a b)
  changed a b low high apart inside is_low is_high same =
      spread_around g n a b apart inside
      ∙ (ap (λ y. spread_with y (g b) (others_of g n a b)) is_low
      ∙ (ap (λ z. spread_with low z (others_of g n a b)) is_high ∙ ap (spread_with low high) (others_same f g n a b apart inside same)))

-- a move of that weight from the victim to the thief, among the loads of the first n cores
module _ (f g : ℕ → ℕ) (n thief victim weight : ℕ) (some : 1 ≤ weight) (gap : f thief + weight < f victim)
    (gains : g thief ≡ f thief + weight) (loses : g victim + weight ≡ f victim) (same : (c : ℕ) → c ≢ thief → c ≢ victim → g c ≡ f c) where
  narrows_up : thief < victim → victim < n → spread_of (map g (range_with_len 0 n)) + 2 ≤ spread_of (map f (range_with_len 0 n))
  narrows_up apart inside =
      let others = others_of f n thief victim in
      let new = changed f g n thief victim (f thief + weight) (g victim) apart inside gains refl same in
      let old = changed f f n thief victim (f thief) (g victim + weight) apart inside refl (sym loses) (λ c this that. refl) in
      let less = narrower (f thief) (g victim) weight others (omega arith) some in
      omega arith

  narrows_down : victim < thief → thief < n → spread_of (map g (range_with_len 0 n)) + 2 ≤ spread_of (map f (range_with_len 0 n))
  narrows_down apart inside =
      let others = others_of f n victim thief in
      let new = changed f g n victim thief (g victim) (f thief + weight) apart inside refl gains (λ c this that. same c that this) in
      let old = changed f f n victim thief (g victim + weight) (f thief) apart inside (sym loses) refl (λ c this that. refl) in
      let less = narrower (f thief) (g victim) weight others (omega arith) some in
      omega (arith, spread_with-sym (g victim) (f thief + weight) others, spread_with-sym (g victim + weight) (f thief) others)

  pub narrows : thief < n → victim < n → thief ≢ victim → spread_of (map g (range_with_len 0 n)) + 2 ≤ spread_of (map f (range_with_len 0 n))
  narrows thief_there victim_there apart = elim (cases_lt thief victim) [ inl up ↦ narrows_up up victim_there | inr down ↦ narrows_down (omega arith) thief_there ]
