-- Threads above a level, and cores above it: how many threads that takes at least. And the sum that bounds the restless rounds.
use Rattle.std.proofs.Common.{◌≡◌, ℕ, zero, suc, ◌+◌, ◌-◌, ◌*◌, ◌/◌, ◌<◌, ◌≤◌, ◌⊎◌, inl, inr, nat_lt, max, Bool, true, false, cond, count_by, sum_by, add-one, refl, ap, ◌∙◌, arith}
use Rattle.std.specs.List.{range_with_len}
use Rattle.std.proofs.lemmas.Bool.{cases_lt}
use Rattle.std.proofs.lemmas.Bool.Decides.{nat_tests}
use Rattle.std.proofs.lemmas.List.FromFn.{length-range_with_len}
use Rattle.std.proofs.lemmas.List.Sums.{count_by-le-length}
use Rattle.std.proofs.lemmas.Nat.{mul-le}
use Rattle.std.proofs.Math.Nat.{add-mul, mul-add, mul-div-le}
use Rattle.round_model.specs.declared.plan.Plan.{Plan}
use Rattle.round_model.specs.Cores.{Cores, core_numbers, thread_count}
use Rattle.rest_laws.specs.LowestFirst.{EachHas, above}
use Rattle.round_laws.proofs.IdleCounts.{count_here, fewer, no_more}
use Rattle.round_laws.proofs.WaitingCounts.{sum_here, thread_total}

-- whether the core has more threads than that
abbrev pub is_up : ℕ → Cores → ℕ → Bool
is_up level m c = nat_lt level (thread_count (m c))

-- how many cores have more
pub up : Plan → ℕ → Cores → ℕ
up plan level m = count_by (is_up level m) (core_numbers plan)

yes : (level : ℕ) (m : Cores) (c : ℕ) → level < thread_count (m c) → is_up level m c ≡ true
yes level m c more = grind (arith, nat_tests)

no : (level : ℕ) (m : Cores) (c : ℕ) → thread_count (m c) ≤ level → is_up level m c ≡ false
no level m c few = grind (arith, nat_tests)

from_test : (level : ℕ) (m w : Cores) (c : ℕ) → (level < thread_count (m c) → level < thread_count (w c)) → is_up level m c ≡ true → is_up level w c ≡ true
from_test level m w c keep is = let more = keep (grind (arith, nat_tests)) in grind (arith, nat_tests)

module _ (plan : Plan) (level : ℕ) where
  -- no more cores than there are
  pub up_all : (m : Cores) → up plan level m ≤ plan.cores
  unfolding up
  up_all m = omega (arith, count_by-le-length (is_up level m) (core_numbers plan), length-range_with_len 0 plan.cores)

  -- all but one at most, where one has no more
  pub up_but_one : (m : Cores) (c : ℕ) → c < plan.cores → thread_count (m c) ≤ level → up plan level m < plan.cores
  unfolding up
  up_but_one m c there few =
      let counted = fewer (λ k. true) (is_up level m) 0 plan.cores (λ k low high one. refl) c (omega arith) (omega arith) refl (no level m c few) in
      omega (arith, count_by-le-length (λ k. true) (range_with_len 0 plan.cores), length-range_with_len 0 plan.cores)

  -- one at least, where one has more
  pub up_some : (m : Cores) (c : ℕ) → c < plan.cores → level < thread_count (m c) → 1 ≤ up plan level m
  unfolding up
  up_some m c there more =
      let counted = fewer (is_up level m) (λ k. false) 0 plan.cores (λ k low high fails. absurd (cc)) c (omega arith) (omega arith) (yes level m c more) refl in
      omega arith

  module _ (m w : Cores) (keep : (c : ℕ) → c < plan.cores → level < thread_count (m c) → level < thread_count (w c)) where
    -- as many as before, where each stays up
    pub up_stays : up plan level m ≤ up plan level w
    unfolding up
    up_stays = no_more (is_up level w) (is_up level m) 0 plan.cores (λ c low high. from_test level m w c (keep c (omega arith)))

    -- and one more, where one comes up
    pub up_more : (b : ℕ) → b < plan.cores → thread_count (m b) ≤ level → level < thread_count (w b) → up plan level m + 1 ≤ up plan level w
    unfolding up
    up_more b there few more =
        fewer (is_up level w) (is_up level m) 0 plan.cores (λ c low high. from_test level m w c (keep c (omega arith))) b (omega arith) (omega arith) (yes level w b more) (no level m b few)

-- a number of a level at least, one more for each of two tests that it passes
one_core : (level x : ℕ) → level ≤ x → level + cond (nat_lt level x) 1 0 + cond (nat_lt (suc level) x) 1 0 ≤ x
one_core level x low = grind (arith, nat_tests)

module _ (f : ℕ → ℕ) where
  floor : (level from n : ℕ) → ((c : ℕ) → from ≤ c → c < from + n → level ≤ f c)
      → n * level + count_by (λ c. nat_lt level (f c)) (range_with_len from n) + count_by (λ c. nat_lt (suc level) (f c)) (range_with_len from n) ≤ sum_by f (range_with_len from n)
  floor level from zero each = omega arith
  floor level from (suc n) each =
      let rest = floor level (from + 1) n (λ c low high. each c (omega arith) (omega arith)) in
      let here = one_core level (f from) (each from (omega arith) (omega arith)) in
      omega (arith, count_here (λ c. nat_lt level (f c)) from n, count_here (λ c. nat_lt (suc level) (f c)) from n, sum_here f from n)

  beyond : (low from n : ℕ) → ((c : ℕ) → from ≤ c → c < from + n → low ≤ f c) → sum_by (λ c. f c - low) (range_with_len from n) + n * low ≡ sum_by f (range_with_len from n)
  beyond low from zero each = omega arith
  beyond low from (suc n) each =
      let rest = beyond low (from + 1) n (λ c least high. each c (omega arith) (omega arith)) in
      let here = each from (omega arith) (omega arith) in
      omega (arith, sum_here (λ c. f c - low) from n, sum_here f from n)

module _ (plan : Plan) (m : Cores) (level : ℕ) (each : EachHas plan m level) where
  -- threads that the cores have at least
  pub total_at_least : plan.cores * level + up plan level m + up plan (suc level) m ≤ thread_total plan m
  unfolding up
  total_at_least = floor (λ c. thread_count (m c)) level 0 plan.cores (λ c low high. each c (omega arith))

  -- threads above the level, and those up to it
  pub above_is : above plan m level + plan.cores * level ≡ thread_total plan m
  unfolding above
  above_is = beyond (λ c. thread_count (m c)) level 0 plan.cores (λ c low high. each c (omega arith))

three_times : (k a b c : ℕ) → k * (a + b + c) ≡ k * a + k * b + k * c
three_times k a b c = mul-add k (a + b) c ∙ ap (λ x. x + k * c) (mul-add k a b)

-- rounds paid for by k a level, and the threads that the levels hold: both k times, and the rounds once more
paid_in_all : (k low level here most above rounds : ℕ) → rounds + 1 + k * low ≤ k * level + most → k * level + level + here ≤ above + k * low + low
    → k * rounds + rounds + k + 1 + k * here ≤ k * above + k * most + most
paid_in_all k low level here most above rounds paid total =
    let first = mul-le k (rounds + 1 + k * low) k (k * level + most) (omega arith) paid in
    let second = mul-le k (k * level + level + here) k (above + k * low + low) (omega arith) total in
    omega (arith, three_times k rounds 1 (k * low), mul-add k (k * level) most, three_times k (k * level) level here, three_times k above (k * low) low)

module _ (n k low level here above rounds : ℕ) (cores : n ≡ k + 1) (paid : rounds + 1 + k * low ≤ k * level + max 1 here) where
  times : (x : ℕ) → n * x ≡ k * x + x
  times x = ap (λ c. c * x) cores ∙ add-mul k 1 x ∙ ap (λ y. k * x + y) (omega arith)

  -- where each of n cores had so many at first, and has the level now, above which some are
  pub paid_by_threads : here ≤ n → n * level + here ≤ above + n * low → n * rounds + above ≤ n * above
  paid_by_threads few total =
      let all = paid_in_all k low level here (max 1 here) above rounds paid (omega (arith, times level, times low)) in
      by_size all (cases_lt here 1)
    where
      by_size : k * rounds + rounds + k + 1 + k * here ≤ k * above + k * max 1 here + max 1 here → (here < 1) ⊎ (1 ≤ here) → n * rounds + above ≤ n * above
      by_size all (inl none) =
          let nothing : k * here ≡ k * 0 = ap (λ x. k * x) (omega arith) in
          let most : k * max 1 here ≡ k * 1 = ap (λ x. k * x) (omega arith) in
          omega (arith, times rounds, times above)
      by_size all (inr enough) =
          let most : k * max 1 here ≡ k * here = ap (λ x. k * x) (omega arith) in
          omega (arith, times rounds, times above)

  -- and a round more, where one is two above it and another isn't above it
  pub paid_with_one : 1 ≤ here → here < n → n * level + here + 1 ≤ above + n * low → n * suc rounds + above ≤ n * above
  paid_with_one enough few total =
      let all = paid_in_all k low level (here + 1) (max 1 here) above rounds paid (omega (arith, times level, times low)) in
      let most : k * max 1 here ≡ k * here = ap (λ x. k * x) (omega arith) in
      omega (arith, times (suc rounds), times above, mul-add k here 1, mul-add k rounds 1, ap (λ x. k * x) (add-one rounds))

-- such a bound says that the rounds are at most the threads less a core's share of them rounded up
pub less_share : (n rounds above : ℕ) → 1 ≤ n → n * rounds + above ≤ n * above → rounds + (above + (n - 1)) / n ≤ above
less_share n rounds above enough bound = by_order (cases_lt above (rounds + (above + (n - 1)) / n))
  where
    by_order : (above < rounds + (above + (n - 1)) / n) ⊎ (rounds + (above + (n - 1)) / n ≤ above) → rounds + (above + (n - 1)) / n ≤ above
    by_order (inl more) =
        let whole = mul-div-le (above + (n - 1)) n in
        let beyond = mul-le n (above + 1) n (rounds + (above + (n - 1)) / n) (omega arith) (omega arith) in
        absurd (omega (arith, mul-add n above 1, mul-add n rounds ((above + (n - 1)) / n)))
    by_order (inr is) = is
