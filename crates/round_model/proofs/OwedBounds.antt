-- No more is owed than an entry for each thread and two for each core.
use Rattle.std.proofs.Common.{◌≡◌, ℕ, zero, suc, ◌+◌, ◌*◌, ◌<◌, ◌≤◌, ◌||◌, eqb, Bool, true, false, cond, List, [], ◌∷◌, length, sum_by, count_by, nat_lt, refl, ap, arith}
use Rattle.std.specs.List.{range_with_len}
use Rattle.std.proofs.lemmas.List.FromFn.{length-range_with_len}
use Rattle.std.proofs.lemmas.List.Sums.{count_by-le-length, sum-map, sum_by-cons, sum_by-le-sum_by}
use Rattle.policy_tree.specs.Meaning.{Meaning}
use Rattle.round_model.specs.declared.entry.Entry.{Entry}
use Rattle.round_model.specs.declared.plan.Plan.{Plan}
use Rattle.round_model.specs.declared.plan.Planned.{Planned}
use Rattle.round_model.specs.After.{after, round_of}
use Rattle.round_model.specs.Bounds.{standing_count}
use Rattle.round_model.specs.BoundsLaws.{is_awaited}
use Rattle.round_model.specs.Cores.{core_numbers}
use Rattle.round_model.specs.Legal.{rounds_begun}
use Rattle.round_model.specs.Owed.{owed}
use Rattle.round_model.specs.OwedLaws.{OwedBoundLaw}
use Rattle.round_model.specs.Scenes.{has_attempted, has_worked, is_due_blocked, is_entering, own_entries, scene_of}
use Rattle.round_model.proofs.Counting.{counted}
use Rattle.round_model.proofs.Bounded.{bounds_law}
use Rattle.round_model.proofs.Entering.{entering_parts}
use Rattle.round_model.proofs.Owing.{sum_owed}
use Rattle.round_model.proofs.Totals.{sum_of_both}

sum_of_same : {X : Type 0} (n : ℕ) (xs : List X) → sum_by (λ x. n) xs ≡ length xs * n
sum_of_same n [] = omega arith
sum_of_same n (x ∷ xs) = omega (arith, sum_by-cons (λ y. n) x xs, sum_of_same n xs)

-- a test of numbers that one alone can pass is passed once at most
module _ (test : ℕ → Bool) (k : ℕ) (only : (c : ℕ) → test c ≡ true → k ≡ c) where
  none_behind : (from n : ℕ) → k < from → count_by test (range_with_len from n) ≡ 0
  none_behind from zero before = refl
  none_behind from (suc n) before =
      let rest = none_behind (from + 1) n (omega arith) in
      let cons = sum_by-cons (λ c. counted (test c)) from (range_with_len (from + 1) n) in
      let here : test from ≡ false = by_cases (test from) (λ passes. let same = only from passes in absurd (omega arith)) in
      let zero_here : counted (test from) ≡ 0 = ap counted here in
      omega arith
    where
      by_cases : (b : Bool) → (b ≡ true → b ≡ false) → b ≡ false
      by_cases true is_not = is_not refl
      by_cases false is_not = refl

  once_among : (from n : ℕ) → count_by test (range_with_len from n) ≤ counted (test k)
  once_among from zero = omega arith
  once_among from (suc n) =
      let rest = once_among (from + 1) n in
      let cons = sum_by-cons (λ c. counted (test c)) from (range_with_len (from + 1) n) in
      elim (test from) as (λ b. test from ≡ b → count_by test (range_with_len from (suc n)) ≤ counted (test k)) [
        | true ↦ λ is.
            let same : k ≡ from = only from is in
            let none = none_behind (from + 1) n (omega arith) in
            let here : counted (test k) ≡ counted (test from) = ap (λ c. counted (test c)) same in
            omega arith
        | false ↦ λ is. let here : counted (test from) ≡ 0 = ap counted is in omega arith
      ] refl

module _ (h : List Entry) where
  lets : ℕ → Planned → Bool
  lets c t = is_entering (round_of h) c (own_entries h c) t

  counted_or : (a b : Bool) → counted b ≤ counted (a || b)
  counted_or true b = elim b as (λ x. counted x ≤ 1) [ true ↦ omega arith | false ↦ omega arith ]
  counted_or false b = omega arith

  -- whom all cores are to let in is awaited
  all_awaited : (cores : ℕ) (threads : List Planned) → sum_by (λ c. count_by (lets c) threads) (range_with_len 0 cores) ≤ count_by (is_awaited h) threads
  unfolding lets
  all_awaited cores [] = omega (arith, sum_of_same 0 (range_with_len 0 cores))
  all_awaited cores (t ∷ threads) =
      let numbers = range_with_len 0 cores in
      let rest = all_awaited cores threads in
      let one = once_among (λ c. lets c t) t.core (λ c is. (entering_parts (round_of h) c (own_entries h c) t is).0) 0 cores in
      let awaited = counted_or (nat_lt (round_of h) t.round) (lets t.core t) in
      let cons = sum_by-cons (λ (x : Planned). counted (is_awaited h x)) t threads in
      let split = sum_of_both (λ c. counted (lets c t)) (λ c. count_by (lets c) threads) numbers in
      let parts : sum_by (λ c. count_by (lets c) (t ∷ threads)) numbers ≤ sum_by (λ c. counted (lets c t) + count_by (lets c) threads) numbers =
      sum_by-le-sum_by (λ c. count_by (lets c) (t ∷ threads)) (λ c. counted (lets c t) + count_by (lets c) threads) numbers (λ c. omega (arith, sum_by-cons (λ (x : Planned). counted (lets c x)) t threads)) in
      omega arith

-- what a core owes at most
owed_at_most : (p : Meaning) (plan : Plan) (h : List Entry) (c : ℕ)
    → owed p plan h c ≤ count_by (lets h c) plan.threads + (standing_count (after p plan h c) + 2)
unfolding owed scene_of lets
owed_at_most p plan h c =
    let core = after p plan h c in
    let due = count_by-le-length (is_due_blocked (round_of h)) core.blocked in
    let most = parts (count_by (lets h c) plan.threads) (count_by (is_due_blocked (round_of h)) core.blocked) (has_worked (own_entries h c)) (has_attempted (own_entries h c)) in
    by_begun (eqb (rounds_begun h) 0) (omega arith)
  where
    parts : (entering waking : ℕ) (worked attempted : Bool) → sum_owed entering waking worked attempted ≤ entering + (waking + 2)
    parts entering waking true true = omega arith
    parts entering waking true false = omega arith
    parts entering waking false true = omega arith
    parts entering waking false false = omega arith

    by_begun : (b : Bool) {n most : ℕ} → n ≤ most → cond b 0 n ≤ most
    by_begun true few = omega arith
    by_begun false few = few

pub owed_few : (p : Meaning) (plan : Plan) (h : List Entry) (c : ℕ) → owed p plan h c ≤ length plan.threads + (standing_count (after p plan h c) + 2)
owed_few p plan h c =
    let most = owed_at_most p plan h c in
    let entering = count_by-le-length (lets h c) plan.threads in omega arith

pub owed_bound : OwedBoundLaw
owed_bound p plan h fits handlers legal =
    let numbers = core_numbers plan in
    let m = after p plan h in
    let room = (bounds_law p plan h fits handlers legal).room in
    let entering = all_awaited h plan.cores plan.threads in
    let each = sum_by-le-sum_by (owed p plan h) (λ c. count_by (lets h c) plan.threads + (standing_count (m c) + 2)) numbers (owed_at_most p plan h) in
    omega (
      arith,
      sum-map (owed p plan h) numbers,
      sum-map (λ c. standing_count (m c)) numbers,
      sum_of_both (λ c. count_by (lets h c) plan.threads) (λ c. standing_count (m c) + 2) numbers,
      sum_of_both (λ c. standing_count (m c)) (λ c. 2) numbers,
      sum_of_same 2 numbers,
      length-range_with_len 0 plan.cores,
    )
