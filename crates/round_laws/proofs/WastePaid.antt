-- Each bad round fills an idle core or has an entry that blocks or ends a thread, and only such an entry makes a core idle.
-- So bad rounds are at most the cores idle at first and those entries. In a still stretch there are none of those, so after
-- as many rounds as cores were idle none is left to be beside an overloaded one.
use Rattle.std.proofs.Common.{◌≡◌, ℕ, zero, suc, ◌+◌, ◌<◌, ◌≤◌, ◌⊎◌, inl, inr, false, cond, List, [], ◌∷◌, length, get_or, take, drop, count_by, IsFalse, refl, sym, ap, ◌∙◌, arith, eq-or-lt_of_le}
use Rattle.std.specs.List.{range_with_len}
use Rattle.std.specs.List.Sorted.{IsStrictlyIncreasing}
use Rattle.std.proofs.lemmas.List.{take-append-drop, take-take}
use Rattle.std.proofs.lemmas.List.FromFn.{get_or-range_with_len, length-range_with_len}
use Rattle.std.proofs.lemmas.List.Sums.{sum_by-append}
use mathlib.Core.Option.{some}
use lib.ListN.{get_elem?}
use Rattle.policy_tree.specs.Meaning.{Meaning}
use Rattle.policy_eval.specs.Obligations.{MeetsObligations}
use Rattle.round_model.specs.declared.entry.Entry.{Entry}
use Rattle.round_model.specs.declared.entry.Entry.TheVariants as entry
use Rattle.round_model.specs.declared.plan.Plan.{Plan}
use Rattle.round_model.specs.After.{after}
use Rattle.round_model.specs.Fits.{Fits}
use Rattle.round_model.specs.Legal.{Legal}
use Rattle.round_model.specs.Rounds.{BeginsAt, IsStill, disturbs, round_at}
use Rattle.round_model.specs.StillRounds.{BesideAt}
use Rattle.policy_eval.specs.LastWaiting.{LeavesLastToIdle}
use Rattle.round_model.specs.Spread.{idle_count}
use Rattle.round_laws.specs.IdleBound.{BadRoundsFill, ConservesWorkSoon, EndsAt, StillWasteIsPaid, WasteIsPaid, WasteIsPaidLaw, idle_at, taken_off, takes_off}
use Rattle.round_laws.proofs.MoveObligations.{move_obligations}
use Rattle.round_laws.proofs.EarlierRounds.{bad_before, rising_numbers}
use Rattle.round_laws.proofs.Fills.{PaysIn, bad_round_pays}
use Rattle.round_laws.proofs.IdleCounts.{counts_none, some_busy, some_idle}
use Rattle.round_laws.proofs.IdleSteps.{off_before, off_more, rises_only_by}
use Rattle.round_laws.proofs.MoveRows.{steal_at, steal_cases}
use Rattle.round_laws.proofs.Paid.{increasing_rest}
use Rattle.round_laws.proofs.RoundNumbers.{EntryAt, begins_in_order, behind_round, entry_at, entry_inside, opened, opens_next, past_end, round_rises, which_entry}
use Rattle.round_laws.proofs.Stretches.{Step, beside_earlier, keeps_all, steals, step, undisturbed}
use Rattle.round_laws.proofs.WaitingCounts.{row_total, thread_total, total_stays, waiting_is}

-- those from one position to another
off_between : (h : List Entry) (low high : ℕ) → low ≤ high → off_before h low + taken_off h low high ≡ off_before h high
off_between h low high ordered =
    let parts = sum_by-append (λ x. cond (takes_off x) 1 0) (take low (take high h)) (drop low (take high h)) in
    let whole = ap (count_by takes_off) (take-append-drop low (take high h)) in
    let front = ap (count_by takes_off) (take-take low high h ordered) in
    omega arith

-- what doesn't disturb takes no thread off
calm_keeps : (e : Entry) → IsFalse (disturbs e) → takes_off e ≡ false
calm_keeps (entry.Round number) calm = refl
calm_keeps (entry.Enter thread by at reads) calm = refl
calm_keeps (entry.Wake thread by at reads) calm = refl
calm_keeps (entry.Work by what) calm = calm
calm_keeps (entry.Steal by from threads reads) calm = refl
calm_keeps (entry.Fail by from reads) calm = refl
calm_keeps (entry.Pass by reads) calm = refl

-- from a start some position is reached, in a round no later than the upper one, with so many fills paid
record FilledFrom (p : Meaning) (plan : Plan) (h : List Entry) (start upper fills : ℕ) : Type 0 where
  position : ℕ
  behind : start ≤ position
  there : position ≤ length h
  within : round_at h position ≤ upper
  paid : fills + idle_at p plan h position + off_before h start ≤ idle_at p plan h start + off_before h position

module _ (p : Meaning) (plan : Plan) (h : List Entry) (fits : Fits p plan) (meets : MeetsObligations p) (legal : Legal p plan h) where
  one_step : (k : ℕ) → EntryAt h k → idle_at p plan h (suc k) + off_before h k ≤ idle_at p plan h k + off_before h (suc k)
  one_step k (entry_at e is) = let rises = rises_only_by p plan h fits meets legal k e is in let more = off_more h k e is in omega arith
  one_step k (past_end same) =
      let idle : idle_at p plan h (suc k) ≡ idle_at p plan h k = ap (λ (g : List Entry). idle_count plan (after p plan g)) same in
      let off : off_before h (suc k) ≡ off_before h k = ap (count_by takes_off) same in
      omega arith

  -- idle cores become more only by entries that block or end a thread
  never_more : (k j : ℕ) → k ≤ j → idle_at p plan h j + off_before h k ≤ idle_at p plan h k + off_before h j
  never_more k zero before =
      let first : k ≡ 0 = omega arith in
      let idle : idle_at p plan h k ≡ idle_at p plan h 0 = ap (idle_at p plan h) first in
      let off : off_before h k ≡ off_before h 0 = ap (off_before h) first in
      omega arith
  never_more k (suc j) before = by_order (never_more k j) (eq-or-lt_of_le before)
    where
      by_order : (k ≤ j → idle_at p plan h j + off_before h k ≤ idle_at p plan h k + off_before h j) → (k ≡ suc j) ⊎ (k < suc j)
          → idle_at p plan h (suc j) + off_before h k ≤ idle_at p plan h k + off_before h (suc j)
      by_order rest (inl is) =
          let idle : idle_at p plan h k ≡ idle_at p plan h (suc j) = ap (idle_at p plan h) is in
          let off : off_before h k ≡ off_before h (suc j) = ap (off_before h) is in
          omega arith
      by_order rest (inr less) = let so_far = rest (omega arith) in let one = one_step j (which_entry h j) in omega arith

  -- of rounds behind the start that have a fill each
  filled_from : (upper : ℕ) (rounds : List ℕ) (start : ℕ) → start ≤ length h → round_at h start ≤ upper → (0 < length rounds → round_at h start < get_or rounds 0 0) → IsStrictlyIncreasing rounds
      → ((k : ℕ) → k < length rounds → (get_or rounds k 0 ≤ upper) × PaysIn p plan h (get_or rounds k 0)) → FilledFrom p plan h start upper (length rounds)
  filled_from upper [] start there within next increasing each = record { position = start; behind = omega arith; there = there; within = within; paid = omega arith }
  filled_from upper (n ∷ rounds) start there within next increasing each =
      let low = next (omega arith) in
      let here = each 0 (omega arith) in
      let bound = here.0 in
      let found = here.1 in
      let f = found.position in
      let in_round = found.in_round in
      let inside = found.there in
      let pays = found.pays in
      let later = behind_round p plan h legal start (suc f) (omega arith) in
      let before = never_more start f (omega arith) in
      let rest = filled_from upper rounds (suc f) (omega arith) (omega arith) (λ some_left. let rises = increasing 0 (omega arith) in omega arith) (increasing_rest n rounds increasing) (λ k below. each (suc k) (omega arith)) in
      let reached = rest.behind in
      let total = rest.paid in
      record { position = rest.position; behind = omega arith; there = rest.there; within = rest.within; paid = omega arith }

  -- a position of a round up to the last stands no later than its end
  before_end : (last ending k : ℕ) → EndsAt h last ending → k ≤ length h → round_at h k ≤ last → k ≤ ending
  before_end last ending k ends there within = by_end ends.last
    where
      by_end : BeginsAt h (suc last) ending ⊎ (ending ≡ length h) → k ≤ ending
      by_end (inl begins) =
          let opens = opened h (suc last) ending begins in
          let less = behind_round p plan h legal k (suc ending) (omega arith) in
          omega arith
      by_end (inr is) = omega arith

  -- in a still stretch no thread is taken off
  module _ (first last opening : ℕ) (still : IsStill h first last) (begins : BeginsAt h first opening) where
    still_off : (k j : ℕ) → opening ≤ k → k ≤ j → round_at h j ≤ last → off_before h j ≡ off_before h k
    still_off k zero behind before within = ap (off_before h) (let first_one : 0 ≡ k = omega arith in first_one)
    still_off k (suc j) behind before within = by_order (still_off k j behind) (eq-or-lt_of_le before)
      where
        calm : EntryAt h j → opening ≤ j → round_at h j ≤ last → off_before h (suc j) ≡ off_before h j
        calm (entry_at e is) later inside =
            let none = counts_none (takes_off e) (calm_keeps e (undisturbed p plan h fits (move_obligations p meets) legal first last opening still begins j e is later inside)) in
            let more = off_more h j e is in
            omega arith
        calm (past_end same) later inside = ap (count_by takes_off) same

        by_order : (k ≤ j → round_at h j ≤ last → off_before h j ≡ off_before h k) → (k ≡ suc j) ⊎ (k < suc j) → off_before h (suc j) ≡ off_before h k
        by_order rest (inl is) = ap (off_before h) (sym is)
        by_order rest (inr less) =
            let rises = round_rises p plan h legal j (suc j) (omega arith) in
            calm (which_entry h j) (omega arith) (omega arith) ∙ rest (omega arith) (omega arith)

    -- and as many threads stand at the cores as before
    still_total : (k j : ℕ) → opening ≤ k → k ≤ j → round_at h j ≤ last → thread_total plan (after p plan (take j h)) ≡ thread_total plan (after p plan (take k h))
    still_total k zero behind before within = ap (λ i. thread_total plan (after p plan (take i h))) (let first_one : 0 ≡ k = omega arith in first_one)
    still_total k (suc j) behind before within = by_order (still_total k j behind) (eq-or-lt_of_le before)
      where
        one : Step p plan h j → thread_total plan (after p plan (take (suc j) h)) ≡ thread_total plan (after p plan (take j h))
        one (keeps_all same) = total_stays plan (after p plan (take j h)) (after p plan (take (suc j) h)) same
        one (steals e is steal) =
            steal_cases (λ x. get_elem? h j ≡ some x → thread_total plan (after p plan (take (suc j) h)) ≡ thread_total plan (after p plan (take j h)))
            (λ by from threads reads here. row_total plan by from threads (after p plan (take j h)) (after p plan (take (suc j) h)) (steal_at p plan h fits (move_obligations p meets) legal j by from threads reads here).1) e steal is

        by_order : (k ≤ j → round_at h j ≤ last → thread_total plan (after p plan (take j h)) ≡ thread_total plan (after p plan (take k h))) → (k ≡ suc j) ⊎ (k < suc j)
            → thread_total plan (after p plan (take (suc j) h)) ≡ thread_total plan (after p plan (take k h))
        by_order rest (inl is) = ap (λ i. thread_total plan (after p plan (take i h))) (sym is)
        by_order rest (inr less) =
            let rises = round_rises p plan h legal j (suc j) (omega arith) in
            one (step p plan h fits (move_obligations p meets) legal first last opening still begins j (omega arith) (omega arith)) ∙ rest (omega arith) (omega arith)

  module _ (leaves : LeavesLastToIdle p) where
    -- a bad and still round ends with fewer idle cores
    bad_rounds_fill : BadRoundsFill p plan h
    bad_rounds_fill n opening ending bad still begins ends =
        let found = bad_round_pays p plan h fits meets leaves legal n bad in
        let f = found.position in
        let in_round = found.in_round in
        let inside = found.there in
        let pays = found.pays in
        let next = opens_next p plan h legal n opening begins in
        let behind = behind_round p plan h legal opening (suc f) (omega arith) in
        let early = before_end n ending (suc f) ends (omega arith) (omega arith) in
        let open_then = ends.in_round in
        let before = never_more opening f (omega arith) in
        let later = never_more (suc f) ending early in
        let stays = still_off n n opening still begins opening ending (omega arith) (omega arith) (omega arith) in
        omega arith

    -- wasted rounds are paid for
    waste_is_paid : WasteIsPaid p plan h
    waste_is_paid first last opening ending [] begins ends increasing each = omega arith
    waste_is_paid first last opening ending (n ∷ bad) begins ends increasing each =
        let next = opens_next p plan h legal first opening begins in
        let here = each 0 0 (omega arith) in
        let low = here.0 in
        let high = here.1 in
        let inside = entry_inside h opening (entry.Round first) begins in
        let filled = filled_from last (n ∷ bad) opening (omega arith) (omega arith) (λ there. omega arith) increasing
        (λ k below. let one = each k 0 below in (one.1, bad_round_pays p plan h fits meets leaves legal (get_or (n ∷ bad) k 0) one.2)) in
        let reached = filled.behind in
        let early = before_end last ending filled.position ends filled.there filled.within in
        let later = never_more filled.position ending early in
        let sum = off_between h opening ending (omega arith) in
        let total = filled.paid in
        omega arith

    -- and so in a still stretch, by the cores that were idle at first alone
    still_waste_is_paid : StillWasteIsPaid p plan h
    still_waste_is_paid first last opening [] stretch begins increasing each = record { idle = omega arith; waiting = omega arith; cores = let some = fits.some_cores in omega arith }
    still_waste_is_paid first last opening (n ∷ rest) stretch begins increasing each =
        let bad = n ∷ rest in
        let next = opens_next p plan h legal first opening begins in
        let ordered = stretch.ordered in
        let inside = entry_inside h opening (entry.Round first) begins in
        let low : 0 < length bad → round_at h opening < get_or bad 0 0 = λ there. let is = (each 0 0 there).0 in omega arith in
        let filled = filled_from last bad opening (omega arith) (omega arith) low increasing
        (λ k below. let one = each k 0 below in
        (one.1, bad_round_pays p plan h fits meets leaves legal (get_or bad k 0) one.2)) in
        let off = still_off first last opening stretch.still begins opening filled.position (omega arith) filled.behind filled.within in
        let threads = still_total first last opening stretch.still begins opening filled.position (omega arith) filled.behind filled.within in
        let one = each 0 0 (omega arith) in
        let from_first = one.0 in
        let to_last = one.1 in
        let this = one.2 in
        let closes = opens_next p plan h legal n this.position this.begins in
        let beside = beside_earlier p plan h fits (move_obligations p meets) legal first last opening stretch.still begins opening this.position (omega arith)
        (begins_in_order p plan h legal first n opening this.position begins this.begins from_first) (omega arith) this.beside in
        let m = after p plan (take opening h) in
        let busy = some_busy plan m beside.overloaded beside.overloaded_there (let two = beside.is_overloaded in omega arith) in
        let first_wait = waiting_is plan m in
        let last_wait = waiting_is plan (after p plan (take filled.position h)) in
        let total = filled.paid in
        record { idle = omega arith; waiting = omega arith; cores = omega arith }

    module _ (first last opening : ℕ) (positive : 1 ≤ first) (still : IsStill h first last) (begins : BeginsAt h first opening) (rounds from : ℕ) (ends : BeginsAt h (first + rounds) from) (within : round_at h from ≤ last) (beside : BesideAt p plan h from) where
      each_fills : (k : ℕ) → k < length (range_with_len first rounds) → (get_or (range_with_len first rounds) k 0 ≤ round_at h from) × PaysIn p plan h (get_or (range_with_len first rounds) k 0)
      each_fills k there =
          let size = length-range_with_len first rounds in
          let is = get_or-range_with_len first rounds k 0 (omega arith) in
          let n = get_or (range_with_len first rounds) k 0 in
          let closes = opens_next p plan h legal (first + rounds) from ends in
          let bad = bad_before p plan h fits meets legal first last opening positive still begins n (first + rounds) from (omega arith) (omega arith) ends within beside in
          (omega arith, bad_round_pays p plan h fits meets leaves legal n bad)

      -- were a core idle beside an overloaded one so late, more would have been filled than were idle
      never_so_late : idle_at p plan h opening ≤ rounds → ⊥
      never_so_late enough =
          let size = length-range_with_len first rounds in
          let closes = opens_next p plan h legal (first + rounds) from ends in
          let opens = opened h (first + rounds) from ends in
          let opening_next = opens_next p plan h legal first opening begins in
          let inside = entry_inside h opening (entry.Round first) begins in
          let some_first : 0 < length (range_with_len first rounds) → round_at h opening < get_or (range_with_len first rounds) 0 0 =
          λ there. omega (arith, get_or-range_with_len first rounds 0 0 (omega arith)) in
          let filled = filled_from (round_at h from) (range_with_len first rounds) opening (omega arith) (omega arith) some_first (rising_numbers first rounds) each_fills in
          let early : filled.position < suc from = behind_round p plan h legal filled.position (suc from) (let bound = filled.within in omega arith) in
          let later = never_more filled.position from (omega arith) in
          let reached = filled.behind in
          let same = still_off first last opening still begins opening from (omega arith) (omega arith) within in
          let some_left = some_idle plan (after p plan (take from h)) beside.idle beside.idle_there beside.is_idle in
          let total = filled.paid in
          omega arith

    -- work is conserved after as many rounds as cores were idle
    conserves_work : ConservesWorkSoon p plan h
    conserves_work first last opening from k stretch begins ends behind there beside =
        let rounds = idle_at p plan h opening in
        let in_order = begins_in_order p plan h legal first (first + rounds) opening from begins ends (omega arith) in
        let rises = round_rises p plan h legal from k behind in
        let within = there.not_after in
        never_so_late first last opening stretch.positive stretch.still begins rounds from ends (omega arith)
        (beside_earlier p plan h fits (move_obligations p meets) legal first last opening stretch.still begins from k in_order behind within beside) (omega arith)

-- the law
pub waste_is_paid_law : WasteIsPaidLaw
waste_is_paid_law p plan h fits meets leaves legal = record {
  bad_rounds_fill = bad_rounds_fill p plan h fits meets legal leaves;
  rises_only_by = rises_only_by p plan h fits meets legal;
  waste_is_paid = waste_is_paid p plan h fits meets legal leaves;
  still_waste_is_paid = still_waste_is_paid p plan h fits meets legal leaves;
  conserves_work = conserves_work p plan h fits meets legal leaves;
}
