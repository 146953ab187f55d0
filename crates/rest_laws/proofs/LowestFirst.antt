-- The law "lowest first": rising restless rounds of a still stretch have each a steal by a core with the fewest threads, which pays
-- for the round; and what is paid is bounded by the threads above the least count.
use Rattle.std.proofs.Common.{◌≡◌, ℕ, zero, suc, ◌+◌, ◌*◌, ◌<◌, ◌≤◌, ◌⊎◌, inl, inr, List, [], ◌∷◌, length, get_or, take, refl, ◌∙◌, subst, arith, eq-or-lt_of_le}
use Rattle.std.specs.List.{range_with_len}
use Rattle.std.specs.List.Sorted.{IsStrictlyIncreasing}
use Rattle.std.proofs.lemmas.List.FromFn.{get_or-range_with_len, length-range_with_len}
use mathlib.Core.Option.{some}
use lib.ListN.{get_elem?}
use Rattle.policy_tree.specs.Meaning.{Meaning}
use Rattle.round_model.specs.declared.entry.Entry.{Entry}
use Rattle.round_model.specs.declared.entry.Entry.TheVariants as entry
use Rattle.round_model.specs.declared.plan.Plan.{Plan}
use Rattle.round_model.specs.After.{after}
use Rattle.round_model.specs.Fits.{Fits}
use Rattle.round_model.specs.Legal.{Legal}
use Rattle.round_model.specs.Rounds.{BeginsAt, IsStill, round_at}
use Rattle.rest_laws.specs.LowestFirst.{EachHas, EvenSoonLaw, LowestFirst, LowestFirstLaw, LowestSteals, RestlessRoundsFew, RestsSoon, above}
use Rattle.round_laws.specs.Rest.{MeetsMoveObligations, RestlessAt}
use Rattle.rest_laws.proofs.Climbing.{HasClimbed, climbs_more, climbs_none, climbs_on, climbs_same, one_more_few, rounds_few}
use Rattle.round_laws.proofs.EarlierRounds.{rising_numbers, still_within}
use Rattle.rest_laws.proofs.Gap.{even_counts}
use Rattle.rest_laws.proofs.Levels.{less_share}
use Rattle.rest_laws.proofs.LowestRounds.{restless_rounds_raise}
use Rattle.round_laws.proofs.MoveRows.{steal_at, steal_cases}
use Rattle.round_laws.proofs.Paid.{increasing_rest}
use Rattle.round_laws.proofs.Rest.{restless_earlier, round_restless}
use Rattle.round_laws.proofs.RoundNumbers.{begins_in_order, behind_round, opened, opens_next, round_behind, round_rises}
use Rattle.round_laws.proofs.Stretches.{Step, keeps_all, steals, step}
use Rattle.round_laws.proofs.WaitingCounts.{row_total, thread_total, total_stays}

-- from a start some position is reached, in a round no later than the upper one, with so many rounds paid
record ClimbedFrom (p : Meaning) (plan : Plan) (h : List Entry) (start upper low rounds : ℕ) : Type 0 where
  position : ℕ
  behind : start ≤ position
  within : round_at h position ≤ upper
  climbed : HasClimbed plan (after p plan (take position h)) low rounds

module _ (p : Meaning) (plan : Plan) (h : List Entry) (fits : Fits p plan) (meets : MeetsMoveObligations p) (lowest : LowestFirst p) (legal : Legal p plan h) where
  module _ (first last opening : ℕ) (still : IsStill h first last) (begins : BeginsAt h first opening) where
    -- what each entry keeps is at each later position where it is at an earlier one
    later : (P : ℕ → Type 0) → ((k : ℕ) → Step p plan h k → P k → P (suc k)) → (k j : ℕ) → opening ≤ k → k ≤ j → round_at h j ≤ last → P k → P j
    later P on k zero behind before within here = let same : k ≡ 0 = omega arith in subst P same here
    later P on k (suc j) behind before within here = by_order (later P on k j behind) (eq-or-lt_of_le before)
      where
        by_order : (k ≤ j → round_at h j ≤ last → P k → P j) → (k ≡ suc j) ⊎ (k < suc j) → P (suc j)
        by_order rest (inl same) = subst P same here
        by_order rest (inr less) =
            let rises = round_rises p plan h legal j (suc j) (omega arith) in
            on j (step p plan h fits meets legal first last opening still begins j (omega arith) (omega arith)) (rest (omega arith) (omega arith) here)

    -- the cores have as many threads
    same_total : (k j : ℕ) → opening ≤ k → k ≤ j → round_at h j ≤ last → thread_total plan (after p plan (take j h)) ≡ thread_total plan (after p plan (take k h))
    same_total k j behind before within = later (λ i. thread_total plan (after p plan (take i h)) ≡ thread_total plan (after p plan (take k h))) on k j behind before within refl
      where
        on : (i : ℕ) → Step p plan h i → thread_total plan (after p plan (take i h)) ≡ thread_total plan (after p plan (take k h)) → thread_total plan (after p plan (take (suc i) h)) ≡ thread_total plan (after p plan (take k h))
        on i (keeps_all same) so_far = total_stays plan (after p plan (take i h)) (after p plan (take (suc i) h)) same ∙ so_far
        on i (steals e is steal) so_far =
            steal_cases (λ x. get_elem? h i ≡ some x → thread_total plan (after p plan (take (suc i) h)) ≡ thread_total plan (after p plan (take i h)))
            (λ by from threads reads here. row_total plan by from threads (after p plan (take i h)) (after p plan (take (suc i) h)) (steal_at p plan h fits meets legal i by from threads reads here).1) e steal is
            ∙ so_far

    -- and what was paid is paid
    climbs_later : (low rounds k j : ℕ) → opening ≤ k → k ≤ j → round_at h j ≤ last → HasClimbed plan (after p plan (take k h)) low rounds → HasClimbed plan (after p plan (take j h)) low rounds
    climbs_later low rounds k j behind before within so_far = later (λ i. HasClimbed plan (after p plan (take i h)) low rounds) on k j behind before within so_far
      where
        on : (i : ℕ) → Step p plan h i → HasClimbed plan (after p plan (take i h)) low rounds → HasClimbed plan (after p plan (take (suc i) h)) low rounds
        on i (keeps_all same) = climbs_same plan (after p plan (take i h)) (after p plan (take (suc i) h)) low rounds same
        on i (steals e is steal) =
            steal_cases (λ x. get_elem? h i ≡ some x → HasClimbed plan (after p plan (take i h)) low rounds → HasClimbed plan (after p plan (take (suc i) h)) low rounds)
            (λ by from threads reads here. climbs_on p plan h fits meets lowest legal i by from threads reads here low rounds) e steal is

    module _ (low upper : ℕ) (inside : upper ≤ last) where
      -- of rounds behind the start
      climbed_from : (rounds : List ℕ) (start paid : ℕ) → opening ≤ start → round_at h start ≤ upper → (0 < length rounds → round_at h start < get_or rounds 0 0) → IsStrictlyIncreasing rounds
          → ((k : ℕ) → k < length rounds → (get_or rounds k 0 ≤ upper) × LowestSteals p plan h (get_or rounds k 0)) → HasClimbed plan (after p plan (take start h)) low paid
          → ClimbedFrom p plan h start upper low (length rounds + paid)
      climbed_from [] start paid behind within next increasing each so_far =
          let none : paid ≡ length {A = ℕ} [] + paid = omega arith in
          record { position = start; behind = omega arith; within = within; climbed = subst (HasClimbed plan (after p plan (take start h)) low) none so_far }
      climbed_from (n ∷ rounds) start paid behind within next increasing each so_far =
          let low_start = next (omega arith) in
          let here = each 0 (omega arith) in
          let bound = here.0 in
          let found = here.1 in
          let s = found.position in
          let in_round = found.in_round in
          let reached = behind_round p plan h legal start s (omega arith) in
          let same : round_at h (suc s) ≡ round_at h s = round_behind h s (entry.Steal found.by found.from found.threads found.reads) found.stands in
          let before = climbs_later low paid start s behind (omega arith) (omega arith) so_far in
          let more = climbs_more p plan h fits meets lowest legal s found.by found.from found.threads found.reads found.stands low paid found.least before in
          let rest = climbed_from rounds (suc s) (suc paid) (omega arith) (omega arith) (λ some_left. let rises = increasing 0 (omega arith) in omega arith) (increasing_rest n rounds increasing) (λ k there. each (suc k) (omega arith)) more in
          let total : length rounds + suc paid ≡ suc (length rounds) + paid = omega arith in
          record { position = rest.position; behind = let later_on = rest.behind in omega arith; within = rest.within; climbed = subst (HasClimbed plan (after p plan (take rest.position h)) low) total rest.climbed }

    -- as a later Round begins at which the cores are restless, the rounds before it and one more are paid
    module _ (positive : 1 ≤ first) (low rounds from : ℕ) (each : EachHas plan (after p plan (take opening h)) low) (ends : BeginsAt h (first + rounds) from) (within : round_at h from ≤ last) (restless : RestlessAt p plan h from) where
      each_raises : (k : ℕ) → k < length (range_with_len first rounds) → (get_or (range_with_len first rounds) k 0 ≤ round_at h from) × LowestSteals p plan h (get_or (range_with_len first rounds) k 0)
      each_raises k there =
          let size = length-range_with_len first rounds in
          let is = get_or-range_with_len first rounds k 0 (omega arith) in
          let n = get_or (range_with_len first rounds) k 0 in
          let closes = opens_next p plan h legal (first + rounds) from ends in (
            omega arith,
            restless_rounds_raise p plan h fits meets lowest legal n
                (round_restless p plan h fits meets legal first last opening still begins positive rounds from ends within restless n (omega arith) (omega arith)) (still_within h first last n n still (omega arith) (omega arith)),
          )

      soon_paid : plan.cores * suc rounds + above plan (after p plan (take opening h)) low ≤ plan.cores * above plan (after p plan (take opening h)) low
      soon_paid =
          let size = length-range_with_len first rounds in
          let closes = opens_next p plan h legal (first + rounds) from ends in
          let opening_next = opens_next p plan h legal first opening begins in
          let some_first : 0 < length (range_with_len first rounds) → round_at h opening < get_or (range_with_len first rounds) 0 0 =
          λ there. omega (arith, get_or-range_with_len first rounds 0 0 (omega arith)) in
          let paid = climbed_from low (round_at h from) within (range_with_len first rounds) opening 0
          (omega arith) (omega arith) some_first (rising_numbers first rounds) each_raises (climbs_none plan (after p plan (take opening h)) low each) in
          let opens = opened h (first + rounds) from ends in
          let reached : paid.position < suc from = behind_round p plan h legal paid.position (suc from) (let bound = paid.within in omega arith) in
          let early = paid.behind in
          let all : length (range_with_len first rounds) + 0 ≡ rounds = omega arith in
          let climbed = climbs_later low rounds paid.position from paid.behind (omega arith) within (subst (HasClimbed plan (after p plan (take paid.position h)) low) all paid.climbed) in
          one_more_few p plan h fits meets lowest legal opening from low rounds each (same_total opening from (omega arith) (omega arith) within) climbed restless

  restless_rounds_few : RestlessRoundsFew p plan h
  restless_rounds_few first last opening low rounds stretch begins each increasing all =
      let next = opens_next p plan h legal first opening begins in
      let ordered = stretch.ordered in
      let some_first : 0 < length rounds → round_at h opening < get_or rounds 0 0 = λ there. let is = (all 0 0 there).0 in omega arith in
      let paid = climbed_from first last opening stretch.still begins low last (omega arith) rounds opening 0 (omega arith) (omega arith) some_first increasing
      (λ k there. let one = all k 0 there in
      (one.1, restless_rounds_raise p plan h fits meets lowest legal (get_or rounds k 0) one.2 (still_within h first last (get_or rounds k 0) (get_or rounds k 0) stretch.still one.0 one.1)))
      (climbs_none plan (after p plan (take opening h)) low each) in
      let number : length rounds + 0 ≡ length rounds = omega arith in
      less_share plan.cores (length rounds) (above plan (after p plan (take opening h)) low) fits.some_cores
      (rounds_few p plan h fits meets lowest legal opening paid.position low (length rounds) each
      (same_total first last opening stretch.still begins opening paid.position (omega arith) paid.behind paid.within)
      (subst (HasClimbed plan (after p plan (take paid.position h)) low) number paid.climbed))

  rests_soon : RestsSoon p plan h
  rests_soon first last opening low rounds from k stretch begins each enough ends behind there restless =
      let in_order = begins_in_order p plan h legal first (first + rounds) opening from begins ends (omega arith) in
      let rises = round_rises p plan h legal from k behind in
      let within = there.not_after in
      let paid = soon_paid first last opening stretch.still begins stretch.positive low rounds from each ends (omega arith)
      (restless_earlier p plan h fits meets legal first last opening stretch.still begins from k in_order behind within restless) in
      let most = less_share plan.cores (suc rounds) (above plan (after p plan (take opening h)) low) fits.some_cores paid in
      absurd (omega arith)

-- the law
pub lowest_first : LowestFirstLaw
lowest_first p plan h fits meets lowest legal = record {
  restless_rounds_raise = restless_rounds_raise p plan h fits meets lowest legal;
  restless_rounds_few = restless_rounds_few p plan h fits meets lowest legal;
  rests_soon = rests_soon p plan h fits meets lowest legal;
}

-- at rest they are even
pub even_soon : EvenSoonLaw
even_soon p plan h first last opening low rounds from k fits meets lowest gap legal stretch begins each enough ends behind there =
    even_counts p plan h k fits meets.handlers legal lowest.equal_weights gap
    (rests_soon p plan h fits meets lowest legal first last opening low rounds from k stretch begins each enough ends behind there)
