-- A restless and still round has a steal by a core with the fewest threads. Until there is one, such a core has the threads that it
-- had as the round began, and whom it saw it sees; so its own attempt is a steal.
use Rattle.std.proofs.Common.{◌≡◌, ◌≢◌, ℕ, zero, suc, ◌<◌, ◌≤◌, ◌⊎◌, inl, inr, IsTrue, List, take, refl, sym, ap, ◌∙◌, subst, arith, eq-or-lt_of_le}
use Rattle.std.proofs.lemmas.Bool.{cases_lt}
use Rattle.std.proofs.lemmas.Bool.Decides.{nat_tests}
use mathlib.Core.Option.{some}
use lib.ListN.{get_elem?}
use Rattle.policy_tree.specs.Meaning.{Meaning}
use Rattle.round_model.specs.declared.entry.Entry.{Entry}
use Rattle.round_model.specs.declared.entry.Entry.TheVariants as entry
use Rattle.round_model.specs.declared.plan.Plan.{Plan}
use Rattle.round_model.specs.declared.state.CountAndLoad.{CountAndLoad}
use Rattle.round_model.specs.After.{after}
use Rattle.round_model.specs.Attempts.{present_values}
use Rattle.round_model.specs.Cores.{Cores, seen_of, thread_count}
use Rattle.round_model.specs.Entries.{acts}
use Rattle.round_model.specs.Fits.{Fits}
use Rattle.round_model.specs.Legal.{Legal}
use Rattle.round_model.specs.Reads.{round_start, value_read}
use Rattle.round_model.specs.Rounds.{Attempts, BeginsAt, IsStill, round_at}
use Rattle.rest_laws.specs.LowestFirst.{EachHas, LowestFirst, LowestSteals, RestlessRoundsRaise}
use Rattle.round_laws.specs.Rest.{MeetsMoveObligations}
use Rattle.round_laws.proofs.Choosing.{PassesNow}
use Rattle.round_laws.proofs.CompleteRounds.{starts_behind}
use Rattle.rest_laws.proofs.LowestSteps.{each_has_yet, fit_at, lower_same, sees_two, sees_yet}
use Rattle.round_laws.proofs.MoveRows.{steal_cases}
use Rattle.round_laws.proofs.PassingAttempts.{KeepsSeeing, attempts_steal}
use Rattle.round_laws.proofs.Restless.{passes_same}
use Rattle.round_laws.proofs.RoundNumbers.{behind_round, opened, opens_next, round_behind, round_rises}
use Rattle.round_laws.proofs.StealsKeepBalance.{steal_opens_none}
use Rattle.round_laws.proofs.Stretches.{Step, keeps_all, steals, step}

-- one of so many numbers is the least
pub record IsLeast (f : ℕ → ℕ) (n : ℕ) : Type 0 where
  pub place : ℕ
  pub there : place < n
  pub least : (c : ℕ) → c < n → f place ≤ f c

pub least_of : (f : ℕ → ℕ) (n : ℕ) → 1 ≤ n → IsLeast f n
least_of f zero enough = absurd (omega arith)
least_of f (suc zero) enough = record { place = 0; there = omega arith; least = λ c there. let same : 0 ≡ c = omega arith in let equal = ap f same in omega arith }
least_of f (suc (suc n)) enough = by_last (least_of f (suc n) (omega arith)) (λ a. cases_lt (f (suc n)) (f a))
  where
    by_last : IsLeast f (suc n) → ((a : ℕ) → (f (suc n) < f a) ⊎ (f a ≤ f (suc n))) → IsLeast f (suc (suc n))
    by_last rest order = by_order (order rest.place)
      where
        lower : ((c : ℕ) → c < suc n → f (suc n) ≤ f c) → (c : ℕ) → (c ≡ suc n) ⊎ (c < suc n) → f (suc n) ≤ f c
        lower low c (inl is) = let equal = ap f is in omega arith
        lower low c (inr less) = low c less

        same : f rest.place ≤ f (suc n) → (c : ℕ) → (c ≡ suc n) ⊎ (c < suc n) → f rest.place ≤ f c
        same low c (inl is) = let equal = ap f is in omega arith
        same low c (inr less) = rest.least c less

        by_order : (f (suc n) < f rest.place) ⊎ (f rest.place ≤ f (suc n)) → IsLeast f (suc (suc n))
        by_order (inl less) = record { place = suc n; there = omega arith; least = λ c there. lower (λ k below. let low = rest.least k below in omega arith) c (eq-or-lt_of_le (omega arith)) }
        by_order (inr low) = record { place = rest.place; there = let there = rest.there in omega arith; least = λ c there. same low c (eq-or-lt_of_le (omega arith)) }

-- from one position to another the core has changed nothing, whom it saw it sees, and no core has fewer threads
record StaysLow (p : Meaning) (plan : Plan) (h : List Entry) (a opening j : ℕ) : Type 0 where
  keeps : KeepsSeeing p plan h a opening j
  least : EachHas plan (after p plan (take j h)) (thread_count (after p plan (take j h) a))

module _ (p : Meaning) (plan : Plan) (h : List Entry) (fits : Fits p plan) (meets : MeetsMoveObligations p) (lowest : LowestFirst p) (legal : Legal p plan h) where
  module _ (a opening : ℕ) (own : a < plan.cores) where
    -- the cores at a position
    abbrev at : ℕ → Cores
    at k = after p plan (take k h)

    stays_there : EachHas plan (at opening) (thread_count (at opening a)) → (j : ℕ) → opening ≡ j → StaysLow p plan h a opening j
    stays_there each j is = subst (StaysLow p plan h a opening) is (record {
      keeps = record {
        same = λ q behind before. ap (value_read p plan h a) (let same : q ≡ opening = omega arith in same);
        sees = λ q r c first ordered last there passes. subst (λ i. PassesNow p plan (at i) a c) (let same : q ≡ r = omega arith in same) passes;
      };
      least = each;
    })

    stays_more : (j : ℕ) → StaysLow p plan h a opening j → seen_of (at (suc j) a) ≡ seen_of (at j a) → EachHas plan (at (suc j)) (thread_count (at j a))
        → ((c : ℕ) → c < plan.cores → PassesNow p plan (at j) a c → PassesNow p plan (at (suc j)) a c) → StaysLow p plan h a opening (suc j)
    stays_more j so_far same each passes = record {
      keeps = record {
        same = λ q behind before. same_by q behind (eq-or-lt_of_le before);
        sees = λ q r c behind ordered before there now. sees_by q r c behind ordered there now (eq-or-lt_of_le before);
      };
      least = λ c there. let had = each c there in let count = ap (λ (s : CountAndLoad). s.nr) same in omega arith;
    }
      where
        same_by : (q : ℕ) → opening ≤ q → (q ≡ suc j) ⊎ (q < suc j) → value_read p plan h a q ≡ value_read p plan h a (suc j)
        same_by q behind (inl is) = ap (value_read p plan h a) is
        same_by q behind (inr less) = so_far.keeps.same q behind (omega arith) ∙ sym same

        to_last : (q c : ℕ) → opening ≤ q → c < plan.cores → PassesNow p plan (at q) a c → (q ≡ suc j) ⊎ (q < suc j) → PassesNow p plan (at (suc j)) a c
        to_last q c behind there now (inl is) = subst (λ i. PassesNow p plan (at i) a c) is now
        to_last q c behind there now (inr less) = passes c there (so_far.keeps.sees q j c behind (omega arith) (omega arith) there now)

        sees_by : (q r c : ℕ) → opening ≤ q → q ≤ r → c < plan.cores → PassesNow p plan (at q) a c → (r ≡ suc j) ⊎ (r < suc j) → PassesNow p plan (at r) a c
        sees_by q r c behind ordered there now (inl is) =
            subst (λ i. PassesNow p plan (at i) a c) (sym is) (to_last q c behind there now (eq-or-lt_of_le (omega arith)))
        sees_by q r c behind ordered there now (inr less) = so_far.keeps.sees q r c behind ordered (omega arith) there now

    module _ (n : ℕ) where
      keeps_low : (j : ℕ) → StaysLow p plan h a opening j → ((c : ℕ) → c < plan.cores → value_read p plan h c (suc j) ≡ value_read p plan h c j) → StaysLow p plan h a opening (suc j)
      keeps_low j so_far same =
          stays_more j so_far (same a own)
          (λ c there. let had = so_far.least c there in let count = ap (λ (s : CountAndLoad). s.nr) (same c there) in omega arith)
          (λ c there. passes_same p plan (at j) (at (suc j)) a c (sym (same a own)) (sym (same c there)))

      -- a steal is by a core with the fewest threads, or leaves this
      steal_low : (j by from : ℕ) (threads reads : List ℕ) → get_elem? h j ≡ some (entry.Steal by from threads reads) → round_at h j ≡ n → StaysLow p plan h a opening j
          → LowestSteals p plan h n ⊎ StaysLow p plan h a opening (suc j)
      steal_low j by from threads reads is in_round so_far = by_count (cases_lt (thread_count (at j a)) (thread_count (at j by)))
        where
          by_count : (thread_count (at j a) < thread_count (at j by)) ⊎ (thread_count (at j by) ≤ thread_count (at j a)) → LowestSteals p plan h n ⊎ StaysLow p plan h a opening (suc j)
          by_count (inl fewer) = inr (stays_more j so_far
              (lower_same p plan h fits meets lowest legal j by from threads reads is a own fewer)
              (each_has_yet p plan h fits meets lowest legal j by from threads reads is (thread_count (at j a)) so_far.least)
              (λ c there. sees_yet p plan h fits meets lowest legal j by from threads reads is a own fewer c))
          by_count (inr low) = inl (record {
            position = j;
            by = by;
            from = from;
            threads = threads;
            reads = reads;
            stands = is;
            in_round = in_round;
            least = λ c there. let had = so_far.least c there in omega arith;
          })

      one_more : (j : ℕ) → round_at h (suc j) ≤ n → n ≤ round_at h (suc j) → Step p plan h j → LowestSteals p plan h n ⊎ StaysLow p plan h a opening j
          → LowestSteals p plan h n ⊎ StaysLow p plan h a opening (suc j)
      one_more j high low stands (inl found) = inl found
      one_more j high low (keeps_all same) (inr so_far) = inr (keeps_low j so_far same)
      one_more j high low (steals e is steal) (inr so_far) =
          let here : round_at h (suc j) ≡ round_at h j = round_behind h j e is ∙ steal_opens_none (round_at h j) e steal in
          steal_cases (λ x. get_elem? h j ≡ some x → LowestSteals p plan h n ⊎ StaysLow p plan h a opening (suc j))
          (λ by from threads reads stands. steal_low j by from threads reads stands (omega arith) so_far) e steal is

    -- up to a position of the round there is such a steal, or this
    module _ (n : ℕ) (still : IsStill h n n) (begins : BeginsAt h n opening) (each : EachHas plan (at opening) (thread_count (at opening a))) where
      raised_or_low : (j : ℕ) → opening ≤ j → round_at h j ≤ n → LowestSteals p plan h n ⊎ StaysLow p plan h a opening j
      raised_or_low zero behind within = inr (stays_there each zero (omega arith))
      raised_or_low (suc j) behind within = by_order (raised_or_low j) (eq-or-lt_of_le behind)
        where
          by_order : (opening ≤ j → round_at h j ≤ n → LowestSteals p plan h n ⊎ StaysLow p plan h a opening j) → (opening ≡ suc j) ⊎ (opening < suc j)
              → LowestSteals p plan h n ⊎ StaysLow p plan h a opening (suc j)
          by_order rest (inl is) = inr (stays_there each (suc j) is)
          by_order rest (inr less) =
              let rises = round_rises p plan h legal j (suc j) (omega arith) in
              let opens = opened h n opening begins in
              let later = round_rises p plan h legal (suc opening) (suc j) (omega arith) in
              one_more n j within (omega arith) (step p plan h fits meets legal n n opening still begins j (omega arith) (omega arith)) (rest (omega arith) (omega arith))

  -- so a restless and still round has such a steal
  pub restless_rounds_raise : RestlessRoundsRaise p plan h
  unfolding acts
  restless_rounds_raise n round still =
      let opening = round.position in
      let m = after p plan (take opening h) in
      let pair = round.restless in
      let low = least_of (λ c. thread_count (m c)) plan.cores fits.some_cores in
      let a = low.place in
      let least_thief = low.least pair.thief pair.thief_there in
      let two = sees_two p plan h fits meets lowest legal opening pair.thief pair.victim pair.thief_there pair.victim_there pair.passes in
      let apart : a ≢ pair.victim = λ is. let same = ap (λ c. thread_count (m c)) is in omega arith in
      let now : PassesNow p plan m a pair.victim =
      lowest.filter (present_values plan m pair.thief) (present_values plan m pair.victim) (present_values plan m a) (present_values plan m pair.victim)
      (fit_at p plan h fits meets lowest legal opening pair.thief pair.thief_there) (fit_at p plan h fits meets lowest legal opening pair.victim pair.victim_there)
      (fit_at p plan h fits meets lowest legal opening a low.there) (fit_at p plan h fits meets lowest legal opening pair.victim pair.victim_there)
      refl pair.passes least_thief (omega arith) in
      let attempt = round.complete a low.there in
      let k = attempt.position in
      let in_round = attempt.in_round in
      let next = opens_next p plan h legal n opening round.begins in
      let behind = behind_round p plan h legal opening k (omega arith) in
      let start = starts_behind p plan h legal n opening k round.begins behind in_round in
      by_search a low.there pair.victim pair.victim_there apart now attempt (omega arith)
      (raised_or_low a opening low.there n still round.begins low.least k (omega arith) (omega arith))
    where
      by_search : (a : ℕ) (own : a < plan.cores) (v : ℕ) → v < plan.cores → a ≢ v → PassesNow p plan (after p plan (take round.position h)) a v
          → (attempt : Attempts h n a) → round.position ≤ round_start (take attempt.position h)
          → LowestSteals p plan h n ⊎ StaysLow p plan h a round.position attempt.position → LowestSteals p plan h n
      by_search a own v there apart now attempt start (inl found) = found
      by_search a own v there apart now attempt start (inr low) =
          let steal = attempts_steal p plan h fits meets legal round.position attempt.position a v attempt.attempt attempt.stands attempt.by_core attempt.is start low.keeps own there apart now in
          steal_cases (λ x. IsTrue (acts a x) → get_elem? h attempt.position ≡ some x → LowestSteals p plan h n)
          (λ by from threads reads acts stands.
          let is : by ≡ a = grind (arith, nat_tests) in
          record {
            position = attempt.position;
            by = by;
            from = from;
            threads = threads;
            reads = reads;
            stands = stands;
            in_round = attempt.in_round;
            least = λ c there. let same = ap (λ i. thread_count (after p plan (take attempt.position h) i)) is in let had = low.least c there in omega arith;
          })
          attempt.attempt steal attempt.by_core attempt.stands
