-- Sums over the cores of a plan.
use Rattle.std.proofs.Common.{◌≢◌, eqb, false, cond, ◌≡◌, ℕ, ◌+◌, ◌<◌, ◌≤◌, List, [], ◌∷◌, map, sum, sum_by, get_or, set, slice_get, Some, get_or-set_other, refl, sym, ap, ◌∙◌, arith}
use Rattle.std.specs.List.{range_with_len}
use Rattle.std.proofs.Math.ListN.{length-set}
use Rattle.std.proofs.lemmas.Bool.Decides.{nat_tests}
use Rattle.std.proofs.lemmas.List.FromFn.{get_or-map-range_with_len}
use Rattle.std.proofs.lemmas.List.Sums.{get_or-le-sum_by, sum-map, sum_by-cons, sum_by-set}
use Rattle.std.proofs.lemmas.Option.{get_or_from_slice_get, slice_get_within}
use Rattle.round_model.specs.declared.state.ModelCore.{ModelCore}
use Rattle.round_model.specs.Cores.{Cores, listed}
use Rattle.round_model.specs.Updates.{updated}
use Rattle.round_model.proofs.States.{listed_length, listed_same, listed_updated}

-- sums of sums
pub sum_of_both : {X : Type 0} (f g : X → ℕ) (xs : List X) → sum_by (λ x. f x + g x) xs ≡ sum_by f xs + sum_by g xs
sum_of_both f g [] = refl
sum_of_both f g (x ∷ xs) = omega (arith, sum_by-cons (λ y. f y + g y) x xs, sum_by-cons f x xs, sum_by-cons g x xs, sum_of_both f g xs)

-- the sum over the first n cores
abbrev pub total : (ModelCore → ℕ) → ℕ → Cores → ℕ
total f n m = sum_by f (listed n m)

sum_of_map : {X Y : Type 0} (f : Y → ℕ) (g : X → Y) (xs : List X) → sum_by f (map g xs) ≡ sum_by (λ x. f (g x)) xs
sum_of_map f g [] = refl
sum_of_map f g (x ∷ xs) = omega (arith, sum_by-cons f (g x) (map g xs), sum_by-cons (λ y. f (g y)) x xs, sum_of_map f g xs)

-- the same, core by core
pub total_is : (f : ModelCore → ℕ) (n : ℕ) (m : Cores) → sum (map (λ c. f (m c)) (range_with_len 0 n)) ≡ total f n m
total_is f n m = sum-map (λ c. f (m c)) (range_with_len 0 n) ∙ sym (sum_of_map f m (range_with_len 0 n))

pub total_same : (f : ModelCore → ℕ) (n : ℕ) (m k : Cores) → ((c : ℕ) → c < n → m c ≡ k c) → total f n m ≡ total f n k
total_same f n m k same = ap (sum_by f) (listed_same n m k same)

-- a sum with one core changed
pub total_updated : (f : ModelCore → ℕ) (n : ℕ) (m : Cores) (at : ℕ) (x : ModelCore) → at < n → total f n (updated m at x) + f (m at) ≡ total f n m + f x
total_updated f n m at x there =
    let changed = ap (sum_by f) (listed_updated n m (listed n m) at x refl there) in
    let here : f (get_or (listed n m) at x) ≡ f (m at) = ap f (get_or-map-range_with_len m 0 n at at x there (omega arith)) in
    let sums = sum_by-set f (listed n m) at x x (omega (arith, listed_length n m)) in
    omega arith

-- what stands at a core is no more than what stands at all
pub total_has : (f : ModelCore → ℕ) (n : ℕ) (m : Cores) (c : ℕ) → c < n → f (m c) ≤ total f n m
total_has f n m c there =
    let here : f (get_or (listed n m) c (m c)) ≡ f (m c) = ap f (get_or-map-range_with_len m 0 n c c (m c) there (omega arith)) in
    let bound = get_or-le-sum_by f (listed n m) c (m c) (omega (arith, listed_length n m)) in
    omega arith

-- nor is what stands at two of them, where something else stands for nothing
pub total_two : (f : ModelCore → ℕ) (n : ℕ) (m : Cores) (a b : ℕ) (empty : ModelCore) → f empty ≡ 0 → a < n → b < n → a ≢ b → f (m a) + f (m b) ≤ total f n m
total_two f n m a b empty none first second apart =
    let rest = total_updated f n m a empty first in
    let other : eqb a b ≡ false = grind (arith, nat_tests) in
    let here : f (updated m a empty b) ≡ f (m b) = ap (λ x. f (cond x empty (m b))) other in
    let bound = total_has f n (updated m a empty) b second in
    omega arith

-- nor is what two items of a list hold
pub sum_two : {X : Type 0} (f : X → ℕ) (xs : List X) (a b : ℕ) (x y empty : X) → f empty ≡ 0 → slice_get xs a ≡ Some x → slice_get xs b ≡ Some y → a ≢ b → f x + f y ≤ sum_by f xs
sum_two f xs a b x y empty none first second apart =
    let changed = set xs a empty in
    let rest = sum_by-set f xs a empty x (slice_get_within xs a x first) in
    let gone : f (get_or xs a x) ≡ f x = ap f (get_or_from_slice_get xs a x x first) in
    let here : f (get_or changed b y) ≡ f y = ap f (get_or-set_other xs a b empty y (λ same. apart (sym same)) ∙ get_or_from_slice_get xs b y y second) in
    let bound = get_or-le-sum_by f changed b y (omega (arith, length-set xs a empty, slice_get_within xs b y second)) in
    omega arith
