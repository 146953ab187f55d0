-- What thread counts and loads say of the cores: equal ones give the same spread, which is no less than the distance of two
-- loads.
use Rattle.std.proofs.Common.{◌≡◌, ℕ, zero, suc, ◌+◌, ◌<◌, ◌≤◌, List, [], ◌∷◌, length, map, get_or, refl, ap, ap₂, arith}
use Rattle.std.specs.Int.{abs_diff}
use Rattle.std.specs.List.{range_with_len}
use Rattle.std.proofs.lemmas.List.FromFn.{get_or-map-range_with_len, length-map-range_with_len}
use Rattle.std.proofs.lemmas.List.Sums.{get_or-le-sum_by}
use Rattle.round_model.specs.declared.plan.Plan.{Plan}
use Rattle.round_model.specs.declared.state.CountAndLoad.{CountAndLoad}
use Rattle.round_model.specs.Cores.{Cores, core_numbers, load_of, seen_of}
use Rattle.round_model.specs.Spread.{Beside, spread, spread_of}

map_same : (f g : ℕ → ℕ) (from n : ℕ) → ((c : ℕ) → c < from + n → f c ≡ g c) → map f (range_with_len from n) ≡ map g (range_with_len from n)
map_same f g from zero same = refl
map_same f g from (suc n) same = ap₂ (λ (x : ℕ) (xs : List ℕ). x ∷ xs) (same from (omega arith)) (map_same f g (from + 1) n (λ c below. same c (omega arith)))

module _ (plan : Plan) (m w : Cores) (same : (c : ℕ) → c < plan.cores → seen_of (m c) ≡ seen_of (w c)) where
  -- cores of the same counts and loads have the same spread
  pub spread_same : spread plan m ≡ spread plan w
  unfolding spread
  spread_same = ap spread_of (map_same (λ c. load_of (m c)) (λ c. load_of (w c)) 0 plan.cores (λ c below. ap (λ (s : CountAndLoad). s.load) (same c (omega arith))))

  -- and a core is idle beside an overloaded one in both or in none
  pub beside_same : Beside plan m → Beside plan w
  beside_same beside = record {
    idle = beside.idle;
    overloaded = beside.overloaded;
    idle_there = beside.idle_there;
    overloaded_there = beside.overloaded_there;
    is_idle = let count = ap (λ (s : CountAndLoad). s.nr) (same beside.idle beside.idle_there) in let was = beside.is_idle in omega arith;
    is_overloaded = let count = ap (λ (s : CountAndLoad). s.nr) (same beside.overloaded beside.overloaded_there) in let was = beside.is_overloaded in omega arith;
  }

-- the spread of a list is at least the distance of any two of its numbers
pub far_spread : (xs : List ℕ) (i j gap : ℕ) → i < length xs → j < length xs → get_or xs i 0 + gap ≤ get_or xs j 0 → gap ≤ spread_of xs
far_spread [] i j gap first second less = absurd (omega arith)
far_spread (x ∷ xs) zero zero gap first second less = omega arith
far_spread (x ∷ xs) zero (suc j) gap first second less = let far = get_or-le-sum_by (abs_diff x) xs j 0 (omega arith) in omega arith
far_spread (x ∷ xs) (suc i) zero gap first second less = let far = get_or-le-sum_by (abs_diff x) xs i 0 (omega arith) in omega arith
far_spread (x ∷ xs) (suc i) (suc j) gap first second less = let rest = far_spread xs i j gap (omega arith) (omega arith) less in omega arith

-- so that of a state is at least the distance of any two loads
pub gap_spread : (plan : Plan) (m : Cores) (a v gap : ℕ) → a < plan.cores → v < plan.cores → load_of (m a) + gap ≤ load_of (m v) → gap ≤ spread plan m
unfolding spread
gap_spread plan m a v gap own there less =
    let loads : ℕ → ℕ = λ c. load_of (m c) in
    let size = length-map-range_with_len loads 0 plan.cores in
    let first = get_or-map-range_with_len loads 0 plan.cores a a 0 own (omega arith) in
    let second = get_or-map-range_with_len loads 0 plan.cores v v 0 there (omega arith) in
    far_spread (map loads (core_numbers plan)) a v gap (omega arith) (omega arith) (omega arith)
