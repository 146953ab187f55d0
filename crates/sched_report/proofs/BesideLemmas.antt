-- A row is bad exactly where a core is idle beside an overloaded one.
use Rattle.std.proofs.Common.{◌≡◌, ℕ, ◌<◌, ◌≤◌, ◌==◌, ◌||◌, Bool, true, false, cond, List, [], ◌∷◌, length, get_or, refl, ap, ◌∙◌, arith}
use Rattle.std.specs.Prelude.{nat_le, Any, count_by}
use Rattle.std.specs.List.{list_any}
use Rattle.std.proofs.lemmas.Bool.Decides.{Decides-ltb, nat_tests}
use Rattle.std.proofs.lemmas.List.Folds.{Any-from_list_any, list_any_at}
use Rattle.std.proofs.lemmas.List.FromFn.{get_or-range_with_len, length-range_with_len}
use Rattle.std.proofs.lemmas.List.Sums.{count_by-le-length, get_or-le-sum_by, sum_by-cons}
use Rattle.policy_tree.specs.Meaning.{Meaning}
use Rattle.round_model.specs.declared.plan.Plan.{Plan}
use Rattle.round_model.specs.Cores.{Cores, core_numbers, thread_count}
use Rattle.round_model.specs.Spread.{Beside, idle_count}
use Rattle.sched_report.specs.RoundRows.{idle_beside, is_bad, is_overloaded, round_row}

abbrev one_if : Bool → ℕ
one_if b = cond b 1 0

-- where some are counted one passes
some_counted : {X : Type 0} (test : X → Bool) (xs : List X) → 0 < count_by test xs → list_any test xs ≡ true
some_counted test [] some = absurd (omega arith)
some_counted test (x ∷ xs) some =
    elim (test x) as (λ b. test x ≡ b → (b || list_any test xs) ≡ true) [
      | true ↦ λ passes. refl
      | false ↦ λ fails.
          let none : one_if (test x) ≡ 0 = ap one_if fails in
          some_counted test xs (omega (arith, sum_by-cons (λ y. one_if (test y)) x xs))
    ] refl

module _ (plan : Plan) (m : Cores) where
  pub number_at : (c d : ℕ) → c < plan.cores → get_or (core_numbers plan) c d ≡ c
  number_at c d there = omega (arith, get_or-range_with_len 0 plan.cores c d there)

  abbrev idle_test : ℕ → Bool
  idle_test c = thread_count (m c) == 0

  abbrev overloaded_test : ℕ → Bool
  overloaded_test c = nat_le 2 (thread_count (m c))

  positive_if : (b : Bool) (n : ℕ) → 0 < cond b n 0 → (b ≡ true) × (0 < n)
  positive_if true n some = (refl, some)
  positive_if false n some = absurd (omega arith)

  is_zero : (n : ℕ) → (n == 0) ≡ true → n ≡ 0
  is_zero n is = grind (arith, nat_tests)

  is_two : (n : ℕ) → nat_le 2 n ≡ true → 2 ≤ n
  is_two n is = grind (arith, nat_tests)

  zero_is : (n : ℕ) → n ≡ 0 → (n == 0) ≡ true
  zero_is n is = grind (arith, nat_tests)

  two_is : (n : ℕ) → 2 ≤ n → nat_le 2 n ≡ true
  two_is n is = grind (arith, nat_tests)

  -- the core at a place among the numbers
  pub core_there : (k c : ℕ) → k < length (core_numbers plan) → get_or (core_numbers plan) k c ≡ c → c < plan.cores
  core_there k c inside is = omega (arith, length-range_with_len 0 plan.cores, get_or-range_with_len 0 plan.cores k c)

  beside_from : 0 < idle_beside plan m → Beside plan m
  unfolding idle_count
  beside_from some =
      let both = positive_if (is_overloaded plan m) (idle_count plan m) some in
      let over = Any-from_list_any overloaded_test (core_numbers plan) both.0 in
      let idle = Any-from_list_any idle_test (core_numbers plan) (some_counted idle_test (core_numbers plan) both.1) in
      from_two idle over
    where
      from_two : Any (λ c. idle_test c ≡ true) (core_numbers plan) → Any (λ c. overloaded_test c ≡ true) (core_numbers plan) → Beside plan m
      from_two (k, c, inside, is, idle) (j, v, there, same, over) = record {
        idle = c;
        overloaded = v;
        idle_there = core_there k c inside is;
        overloaded_there = core_there j v there same;
        is_idle = is_zero (thread_count (m c)) idle;
        is_overloaded = is_two (thread_count (m v)) over;
      }

  from_beside : Beside plan m → 0 < idle_beside plan m
  unfolding idle_count
  from_beside is =
      let size = length-range_with_len 0 plan.cores in
      let c = is.idle in let v = is.overloaded in
      let there = is.idle_there in let stands = is.overloaded_there in
      let over : is_overloaded plan m ≡ true = list_any_at overloaded_test (core_numbers plan) v v (omega arith) (ap overloaded_test (number_at v v stands) ∙ two_is (thread_count (m v)) is.is_overloaded) in
      let one : one_if (idle_test (get_or (core_numbers plan) c c)) ≡ 1 = ap one_if (ap idle_test (number_at c c there) ∙ zero_is (thread_count (m c)) is.is_idle) in
      let some = get_or-le-sum_by (λ x. one_if (idle_test x)) (core_numbers plan) c c (omega arith) in
      let all : idle_beside plan m ≡ idle_count plan m = ap (λ b. cond b (idle_count plan m) 0) over in
      omega arith

  pub bad_is_beside : (p : Meaning) (number : ℕ) → is_bad (round_row p plan number m) ≡ true → Beside plan m
  unfolding round_row
  bad_is_beside p number bad = beside_from ((Decides-ltb 0 (idle_beside plan m)).0 bad)

  pub beside_is_bad : (p : Meaning) (number : ℕ) → Beside plan m → is_bad (round_row p plan number m) ≡ true
  unfolding round_row
  beside_is_bad p number beside = (Decides-ltb 0 (idle_beside plan m)).1 (from_beside beside)

  -- no more cores are idle than there are
  pub few_idle : (p : Meaning) (number : ℕ) → (round_row p plan number m).idle ≤ plan.cores
  unfolding round_row idle_count
  few_idle p number = by_test (is_overloaded plan m)
    where
      by_test : (b : Bool) → cond b (idle_count plan m) 0 ≤ plan.cores
      by_test true = omega (arith, count_by-le-length idle_test (core_numbers plan), length-range_with_len 0 plan.cores)
      by_test false = omega arith
