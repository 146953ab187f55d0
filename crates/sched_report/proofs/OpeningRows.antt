-- What is told of a state as a list of cores is what is told of the state.
use Rattle.std.proofs.Common.{◌≡◌, ℕ, zero, suc, ◌+◌, ◌<◌, ◌≤◌, ◌==◌, List, [], ◌∷◌, ◌++◌, Option, None, Some, Bool, not, ◌&&◌, ◌||◌, cond, sum_by, length, map, take, set, refl, sym, ap, ap₂, subst, ◌∙◌, arith, add-one}
use Rattle.std.specs.Prelude.{nat_le, slice_get}
use Rattle.std.specs.List.{list_any, range_with_len}
use Rattle.std.proofs.lemmas.List.{map-append, take_more_set}
use Rattle.std.proofs.lemmas.List.FromFn.{get_or-map-range_with_len}
use Rattle.std.proofs.lemmas.List.Sums.{sum_by-cons}
use Rattle.policy_tree.specs.Meaning.{Meaning}
use Rattle.policy_eval.specs.Fitting.{CoreFits}
use Rattle.round_model.specs.declared.plan.Plan.{Plan}
use Rattle.round_model.specs.declared.state.ModelCore.{ModelCore}
use Rattle.round_model.specs.Attempts.{present_values}
use Rattle.round_model.specs.Choices.{is_candidate, may_steal}
use Rattle.round_model.specs.Cores.{Cores, core_numbers, listed, load_of, seen_of, thread_count}
use Rattle.round_model.specs.Reads.{values_of}
use Rattle.round_model.specs.Spread.{idle_count, spread, spread_of}
use Rattle.sched_report.specs.declared.rows.RoundRow.{RoundRow}
use Rattle.sched_report.specs.Code.Openings.{AllFit, core_at, idle_in, no_core, row_in}
use Rattle.sched_report.specs.Rests.{gap_at_rest, has_victim, is_restless, width, width_of}
use Rattle.sched_report.specs.RoundRows.{idle_beside, round_row}
use Rattle.sched_report.proofs.Fronts.{take_next}

-- the load of one core more
pub loads_more : (loads : List ℕ) (state : List ModelCore) (at load : ℕ) (core : ModelCore) → at < length loads → take at loads ≡ map load_of (take at state)
    → slice_get state at ≡ Some core → load ≡ load_of core → take (at + 1) (set loads at load) ≡ map load_of (take (at + 1) state)
loads_more loads state at load core inside so_far is same =
    take_more_set loads at load inside
    ∙ (ap₂ (λ (front : List ℕ) (last : ℕ). front ++ last ∷ []) so_far same
    ∙ (sym (map-append load_of (take at state) (core ∷ []))
    ∙ sym (ap (map load_of) (ap (λ n. take n state) (add-one at) ∙ take_next state at core is))))

map_map : {X Y Z : Type 0} (f : Y → Z) (g : X → Y) (xs : List X) → map f (map g xs) ≡ map (λ x. f (g x)) xs
map_map f g [] = refl
map_map f g (x ∷ xs) = ap (λ rest. f (g x) ∷ rest) (map_map f g xs)

any_map : {X Y : Type 0} (test : Y → Bool) (g : X → Y) (xs : List X) → list_any test (map g xs) ≡ list_any (λ x. test (g x)) xs
any_map test g [] = refl
any_map test g (x ∷ xs) = ap (λ rest. test (g x) || rest) (any_map test g xs)

sum_map : {X Y : Type 0} (f : Y → ℕ) (g : X → Y) (xs : List X) → sum_by f (map g xs) ≡ sum_by (λ x. f (g x)) xs
sum_map f g [] = refl
sum_map f g (x ∷ xs) = omega (arith, sum_by-cons f (g x) (map g xs), sum_by-cons (λ y. f (g y)) x xs, sum_map f g xs)

-- how many are idle beside an overloaded one
idle_is : (plan : Plan) (m : Cores) → idle_in (listed plan.cores m) ≡ idle_beside plan m
unfolding idle_count
idle_is plan m =
    ap₂ (λ (b : Bool) (n : ℕ). cond b n 0) (any_map (λ (core : ModelCore). nat_le 2 (thread_count core)) m (core_numbers plan))
    (sum_map (λ (core : ModelCore). cond (thread_count core == 0) 1 0) m (core_numbers plan))

abbrev rest_if : Bool → ℕ → Option ℕ
rest_if b n = cond b None (Some n)

-- two tests of the same answers have the same outcome over the numbers of cores
any_same : (f g : ℕ → Bool) (from n : ℕ) → ((c : ℕ) → from ≤ c → c < from + n → f c ≡ g c) → list_any f (range_with_len from n) ≡ list_any g (range_with_len from n)
any_same f g from zero same = refl
any_same f g from (suc n) same =
    ap₂ (λ (a b : Bool). a || b) (same from (omega arith) (omega arith))
    (any_same f g (from + 1) n (λ c low high. same c (omega arith) (omega arith)))

map_same : (f g : ℕ → ℕ) (from n : ℕ) → ((c : ℕ) → from ≤ c → c < from + n → f c ≡ g c) → map f (range_with_len from n) ≡ map g (range_with_len from n)
map_same f g from zero same = refl
map_same f g from (suc n) same =
    ap₂ (λ (x : ℕ) (xs : List ℕ). x ∷ xs) (same from (omega arith) (omega arith))
    (map_same f g (from + 1) n (λ c low high. same c (omega arith) (omega arith)))

module _ (p : Meaning) (plan : Plan) (m : Cores) where
  abbrev there : Cores
  there = core_at (listed plan.cores m)

  core_same : (c : ℕ) → c < plan.cores → there c ≡ m c
  core_same c inside = get_or-map-range_with_len m 0 plan.cores c c no_core inside (omega arith)

  candidate_same : (a v : ℕ) → a < plan.cores → v < plan.cores → is_candidate p (present_values plan there) a v ≡ is_candidate p (present_values plan m) a v
  candidate_same a v own other =
      ap₂ (λ (x y : ModelCore). not (a == v) && may_steal p (values_of plan a (seen_of x)) (values_of plan v (seen_of y))) (core_same a own) (core_same v other)

  restless_same : is_restless p plan there ≡ is_restless p plan m
  restless_same =
      any_same (has_victim p plan there) (has_victim p plan m) 0 plan.cores
      (λ a low own. any_same (is_candidate p (present_values plan there) a) (is_candidate p (present_values plan m) a) 0 plan.cores
      (λ v least other. candidate_same a v (omega arith) (omega arith)))

  width_same : width plan there ≡ width plan m
  width_same = ap width_of (map_same (λ c. load_of (there c)) (λ c. load_of (m c)) 0 plan.cores (λ c low inside. ap load_of (core_same c (omega arith))))

  rest_same : gap_at_rest p plan there ≡ gap_at_rest p plan m
  unfolding gap_at_rest
  rest_same = ap₂ (λ (b : Bool) (n : ℕ). rest_if b n) restless_same width_same

  -- the filter may be asked of a state as a list where it may be asked of the state
  pub state_fits : (state : List ModelCore) → state ≡ listed plan.cores m → ((c : ℕ) → c < plan.cores → CoreFits p (present_values plan m c)) → AllFit p plan (core_at state)
  state_fits state is fits = subst (λ cores. AllFit p plan (core_at cores)) (sym is)
      (λ c inside. subst (λ (core : ModelCore). CoreFits p (values_of plan c (seen_of core))) (sym (core_same c inside)) (fits c inside))

  -- the row of a state
  pub row_is : (number : ℕ) → row_in p plan (listed plan.cores m) number ≡ round_row p plan number m
  unfolding round_row spread
  row_is number =
      let row : ℕ → ℕ → RoundRow = λ apart idle. record { number = number; spread = apart; idle = idle; rest = gap_at_rest p plan there } in
      let with_rest : Option ℕ → RoundRow = λ rest. record { number = number; spread = spread_of (map (λ c. load_of (m c)) (core_numbers plan)); idle = idle_beside plan m; rest = rest } in
      ap₂ row (ap spread_of (map_map load_of m (core_numbers plan))) (idle_is plan m) ∙ ap with_rest rest_same
