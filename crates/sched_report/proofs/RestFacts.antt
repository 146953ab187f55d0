-- What the row of a round says of rest is so of the state in which the round opens.
use Rattle.std.proofs.Common.{◌≡◌, ◌≢◌, ℕ, zero, suc, ◌+◌, ◌-◌, ◌<◌, ◌≤◌, ◌==◌, not, ◌&&◌, Bool, true, false, cond, List, [], ◌∷◌, None, Some, All, length, get_or, map, refl, sym, ap, ap₂, ◌∙◌, arith}
use Rattle.std.specs.Prelude.{Any, fold, max}
use Rattle.std.specs.Option.{option_map}
use Rattle.std.proofs.lemmas.Bool.{false≢true}
use Rattle.std.proofs.lemmas.Bool.Decides.{nat_tests}
use Rattle.std.proofs.lemmas.List.{get_or-map, length-map}
use Rattle.std.proofs.lemmas.List.Folds.{Any-from_list_any, list_any_at}
use Rattle.std.proofs.lemmas.List.FromFn.{get_or-map-range_with_len, length-map-range_with_len, length-range_with_len}
use Rattle.policy_tree.specs.Meaning.{Meaning}
use Rattle.round_model.specs.declared.plan.Plan.{Plan}
use Rattle.round_model.specs.Attempts.{present_values}
use Rattle.round_model.specs.Choices.{is_candidate, may_steal}
use Rattle.round_model.specs.Cores.{Cores, core_numbers, load_of}
use Rattle.round_laws.specs.Rest.{Restless}
use Rattle.rest_laws.specs.Gap.{LoadsWithin}
use Rattle.sched_report.specs.RestRows.{IsLeastWidth}
use Rattle.sched_report.specs.Rests.{gap_at_rest, greatest, has_victim, is_restless, rest_told, width}
use Rattle.sched_report.specs.RoundRows.{round_row}
use Rattle.sched_report.specs.declared.rows.RestRow.{RestRow}
use Rattle.sched_report.proofs.BesideLemmas.{core_there, number_at}
use Rattle.sched_report.proofs.PaidLemmas.{both}

max_left : (a b : ℕ) → a ≤ max a b
max_left a b = omega arith

max_right : (a b : ℕ) → b ≤ max a b
max_right a b = omega arith

max_below : (a b c : ℕ) → a ≤ c → b ≤ c → max a b ≤ c
max_below a b c first second = omega arith

-- the greatest is no less than where the search began, and no less than each
fold_above : (a : ℕ) (xs : List ℕ) → a ≤ fold max a xs
fold_above a [] = omega arith
fold_above a (x ∷ xs) = omega (arith, max_left a x, fold_above (max a x) xs)

fold_each : (a : ℕ) (xs : List ℕ) (k d : ℕ) → k < length xs → get_or xs k d ≤ fold max a xs
fold_each a [] k d inside = absurd (omega arith)
fold_each a (x ∷ xs) zero d inside = omega (arith, max_right a x, fold_above (max a x) xs)
fold_each a (x ∷ xs) (suc k) d inside = fold_each (max a x) xs k d (omega arith)

-- and no greater than what bounds them all
fold_below : (a b : ℕ) (xs : List ℕ) → a ≤ b → All (λ x. x ≤ b) xs → fold max a xs ≤ b
fold_below a b [] first each = first
fold_below a b (x ∷ xs) first each =
    fold_below (max a x) b xs (max_below a x b first (each 0 x (omega arith))) (λ k d inside. each (suc k) d (omega arith))

module _ (plan : Plan) (m : Cores) where
  abbrev loads : List ℕ
  loads = map (λ c. load_of (m c)) (core_numbers plan)

  abbrev below_top : ℕ → ℕ
  below_top x = greatest loads - x

  load_at : (c : ℕ) → c < plan.cores → get_or loads c 0 ≡ load_of (m c)
  load_at c there = get_or-map-range_with_len (λ x. load_of (m x)) 0 plan.cores c c 0 there (omega arith)

  how_many : length loads ≡ plan.cores
  how_many = length-map-range_with_len (λ x. load_of (m x)) 0 plan.cores

  below_at : (c d : ℕ) → c < plan.cores → get_or (map below_top loads) c d ≡ greatest loads - load_of (m c)
  below_at c d there = get_or-map below_top loads c 0 d (omega (arith, how_many)) ∙ ap below_top (load_at c there)

  -- no two loads differ by more than the width, and by none that is less
  pub width_least : IsLeastWidth plan m (width plan m)
  width_least = record {
    within = λ a c own there.
        omega (
          arith,
          fold_each 0 loads a 0 (omega (arith, how_many)),
          load_at a own,
          fold_each 0 (map below_top loads) c 0 (omega (arith, length-map loads below_top, how_many)),
          below_at c 0 there,
        );
    least = λ other within.
        fold_below 0 other (map below_top loads) (omega arith)
        (λ c d inside.
        let there : c < plan.cores = omega (arith, length-map loads below_top, how_many) in
        let top : greatest loads ≤ load_of (m c) + other = fold_below 0 (load_of (m c) + other) loads (omega arith) (each_load other within c there) in
        omega (arith, below_at c d there));
  }
    where
      each_load : (other : ℕ) → LoadsWithin plan m other → (c : ℕ) → c < plan.cores → All (λ x. x ≤ load_of (m c) + other) loads
      each_load other within c there a d inside =
          let own : a < plan.cores = omega (arith, how_many) in
          let is : get_or loads a d ≡ load_of (m a) = get_or-map-range_with_len (λ x. load_of (m x)) 0 plan.cores a a d own (omega arith) in
          omega (arith, within a c own there)

apart_from : (a v : ℕ) → not (a == v) ≡ true → a ≢ v
apart_from a v differ = λ same. absurd (let equal : (a == v) ≡ true = grind (arith, nat_tests) in false≢true (sym (ap not equal) ∙ differ))

differ_if : (a v : ℕ) → a ≢ v → not (a == v) ≡ true
differ_if a v apart = by_test (a == v) refl
  where
    by_test : (b : Bool) → (a == v) ≡ b → not b ≡ true
    by_test true equal = absurd (apart (grind (arith, nat_tests)))
    by_test false equal = refl

module _ (p : Meaning) (plan : Plan) (m : Cores) where
  abbrev may : ℕ → ℕ → Bool
  may a v = is_candidate p (present_values plan m) a v

  -- the test finds a core that may steal from another, where there is one
  pub restless_from : is_restless p plan m ≡ true → Restless p plan m
  restless_from found = from_thief (Any-from_list_any (has_victim p plan m) (core_numbers plan) found)
    where
      from_victim : (k a : ℕ) → k < length (core_numbers plan) → get_or (core_numbers plan) k a ≡ a → Any (λ v. may a v ≡ true) (core_numbers plan) → Restless p plan m
      from_victim k a inside is (j, v, there, same, takes) =
          let parts = both (not (a == v)) (may_steal p (present_values plan m a) (present_values plan m v)) takes in
          record {
            thief = a;
            victim = v;
            thief_there = core_there plan m k a inside is;
            victim_there = core_there plan m j v there same;
            apart = apart_from a v parts.0;
            passes = parts.1;
          }

      from_thief : Any (λ a. has_victim p plan m a ≡ true) (core_numbers plan) → Restless p plan m
      from_thief (k, a, inside, is, has) = from_victim k a inside is (Any-from_list_any (may a) (core_numbers plan) has)

  pub from_restless : Restless p plan m → is_restless p plan m ≡ true
  from_restless is =
      let size = length-range_with_len 0 plan.cores in
      let a = is.thief in let v = is.victim in
      let own = is.thief_there in let there = is.victim_there in
      let takes : may a v ≡ true = ap₂ (λ (x y : Bool). x && y) (differ_if a v is.apart) is.passes in
      let has : has_victim p plan m a ≡ true = list_any_at (may a) (core_numbers plan) v v (omega arith) (ap (may a) (number_at plan m v v there) ∙ takes) in
      list_any_at (has_victim p plan m) (core_numbers plan) a a (omega arith) (ap (has_victim p plan m) (number_at plan m a a own) ∙ has)

  -- what the row of a round tells of rest
  pub record RestTold (number : ℕ) (rest : RestRow) : Type 0 where
    pub rests : ¬ Restless p plan m
    pub round_is : rest.round ≡ number
    pub gap_is : rest.gap ≡ width plan m

  abbrev row_for : ℕ → ℕ → RestRow
  row_for number gap = record { round = number; gap = gap }

  pub told_rest : (number : ℕ) (rest : RestRow) → rest_told (round_row p plan number m) ≡ Some rest → RestTold number rest
  unfolding round_row gap_at_rest
  told_rest number rest told = by_test (is_restless p plan m) refl told
    where
      by_test : (b : Bool) → is_restless p plan m ≡ b → option_map (row_for number) (cond b None (Some (width plan m))) ≡ Some rest → RestTold number rest
      by_test true restless is = absurd (cc)
      by_test false restless is =
          let same : row_for number (width plan m) ≡ rest = cc in
          record {
            rests = λ some. absurd (false≢true (sym restless ∙ from_restless some));
            round_is = ap (λ (r : RestRow). r.round) (sym same);
            gap_is = ap (λ (r : RestRow). r.gap) (sym same);
          }

  pub told_restless : (number : ℕ) → rest_told (round_row p plan number m) ≡ None → Restless p plan m
  unfolding round_row gap_at_rest
  told_restless number none = by_test (is_restless p plan m) refl none
    where
      by_test : (b : Bool) → is_restless p plan m ≡ b → option_map (row_for number) (cond b None (Some (width plan m))) ≡ None → Restless p plan m
      by_test true restless is = restless_from restless
      by_test false restless is = absurd (cc)
