-- The row of the round of each number.
use Rattle.std.proofs.Common.{◌≡◌, ℕ, zero, suc, ◌+◌, ◌<◌, ◌≤◌, ◌⊎◌, inl, inr, cond, List, [], ◌∷◌, ◌++◌, Some, length, get_or, option_to_list, take, refl, sym, ap, subst, ◌∙◌, arith, eq-or-lt_of_le}
use Rattle.std.specs.Prelude.{filter_map, slice_get}
use Rattle.std.specs.List.{enumerate_from}
use Rattle.std.proofs.lemmas.List.{length-append, take_all}
use Rattle.std.proofs.lemmas.Option.{get_or_from_slice_get}
use mathlib.Core.Option.{some}
use lib.ListN.{get_elem?}
use Rattle.policy_tree.specs.Meaning.{Meaning}
use Rattle.round_model.specs.declared.entry.Entry.{Entry}
use Rattle.round_model.specs.declared.entry.Entry.TheVariants as entry
use Rattle.round_model.specs.declared.plan.Plan.{Plan}
use Rattle.round_model.specs.After.{after, round_of}
use Rattle.round_model.specs.Cores.{Cores}
use Rattle.round_model.specs.Kinds.{is_round}
use Rattle.round_model.specs.Legal.{Legal, rounds_begun}
use Rattle.round_model.specs.Rounds.{BeginsAt, round_at}
use Rattle.round_model.proofs.Histories.{open_round}
use Rattle.round_model.proofs.Longer.{begun_more}
use Rattle.round_judge.proofs.Keeping.{slice_get_last}
use Rattle.round_laws.proofs.Positions.{entry_more}
use Rattle.round_laws.proofs.RoundNumbers.{begun_before, counted_at, entry_inside, opens_next}
use Rattle.sched_report.specs.RoundRows.{round_row, round_rows, row_at, row_of}
use Rattle.sched_report.specs.Code.Runs.{AreNumbered}
use Rattle.sched_report.specs.declared.rows.RoundRow.{RoundRow}
use Rattle.sched_report.proofs.WalkLemmas.{elem_at, picked_more}

slice_get_longer : {X : Type 0} (xs ys : List X) (i : ℕ) (x : X) → slice_get xs i ≡ Some x → slice_get (xs ++ ys) i ≡ Some x
slice_get_longer [] ys i x is = absurd (cc)
slice_get_longer (y ∷ xs) ys zero x is = is
slice_get_longer (y ∷ xs) ys (suc i) x is = slice_get_longer xs ys i x is

-- an entry has a row where a round begins in it
one_row : (p : Meaning) (plan : Plan) (m : Cores) (e : Entry) → length (option_to_list (row_of p plan m e)) ≡ cond (is_round e) 1 0
one_row p plan m (entry.Round number) = refl
one_row p plan m (entry.Enter thread by at reads) = refl
one_row p plan m (entry.Wake thread by at reads) = refl
one_row p plan m (entry.Work by what) = refl
one_row p plan m (entry.Steal by from threads reads) = refl
one_row p plan m (entry.Fail by from reads) = refl
one_row p plan m (entry.Pass by reads) = refl

module _ (p : Meaning) (plan : Plan) (history : List Entry) where
  -- the rows of the first entries
  abbrev front : ℕ → List RoundRow
  front at = filter_map (row_at p plan history) (enumerate_from 0 (take at history))

  front_more : (at : ℕ) (e : Entry) → get_elem? history at ≡ some e → at < length history → front (suc at) ≡ front at ++ option_to_list (row_of p plan (after p plan (take at history)) e)
  front_more at e is inside = picked_more (row_at p plan history) history at e is inside

  front_whole : front (length history) ≡ round_rows p plan history
  front_whole = ap (λ h. filter_map (row_at p plan history) (enumerate_from 0 h)) (take_all (length history) history (omega arith))

  -- there are as many as rounds have begun
  counted : (at : ℕ) → at ≤ length history → length (front at) ≡ rounds_begun (take at history)
  counted zero within = refl
  counted (suc at) within =
      let d : Entry = entry.Round 0 in
      let e = get_or history at d in
      let is = elem_at history at d (omega arith) in
      let begun : rounds_begun (take (suc at) history) ≡ rounds_begun (take at history) + cond (is_round e) 1 0 = ap rounds_begun (entry_more history at e is) ∙ begun_more (take at history) e in
      omega (
        arith,
        ap length (front_more at e is (omega arith)),
        length-append (front at) (option_to_list (row_of p plan (after p plan (take at history)) e)),
        one_row p plan (after p plan (take at history)) e,
        counted at (omega arith),
        begun,
      )

  pub rows_counted : length (round_rows p plan history) ≡ rounds_begun history
  rows_counted = ap length (sym front_whole) ∙ (counted (length history) (omega arith) ∙ ap rounds_begun (take_all (length history) history (omega arith)))

  stays : (at j i : ℕ) (x : RoundRow) → slice_get (front j) i ≡ Some x → j ≤ at → at ≤ length history → slice_get (front at) i ≡ Some x
  stays zero j i x is before within = subst (λ n. slice_get (front n) i ≡ Some x) (let first : j ≡ 0 = omega arith in first) is
  stays (suc at) j i x is before within = by_order (stays at j i x is) (eq-or-lt_of_le before)
    where
      by_order : (j ≤ at → at ≤ length history → slice_get (front at) i ≡ Some x) → (j ≡ suc at) ⊎ (j < suc at) → slice_get (front (suc at)) i ≡ Some x
      by_order rest (inl same) = subst (λ n. slice_get (front n) i ≡ Some x) same is
      by_order rest (inr less) =
          let d : Entry = entry.Round 0 in
          let e = get_or history at d in
          subst (λ rows. slice_get rows i ≡ Some x) (sym (front_more at e (elem_at history at d (omega arith)) (omega arith)))
          (slice_get_longer (front at) (option_to_list (row_of p plan (after p plan (take at history)) e)) i x (rest (omega arith) (omega arith)))

  -- the row of a Round stands behind those of the rounds before it
  pub row_in_place : (number at : ℕ) → BeginsAt history number at → slice_get (round_rows p plan history) (rounds_begun (take at history)) ≡ Some (round_row p plan number (after p plan (take at history)))
  row_in_place number at begins =
      let inside = entry_inside history at (entry.Round number) begins in
      let row = round_row p plan number (after p plan (take at history)) in
      let here : slice_get (front (suc at)) (length (front at)) ≡ Some row =
      subst (λ rows. slice_get rows (length (front at)) ≡ Some row) (sym (front_more at (entry.Round number) begins inside)) (slice_get_last (front at) row) in
      let all = stays (length history) (suc at) (length (front at)) row here (omega arith) (omega arith) in
      subst (λ n. slice_get (round_rows p plan history) n ≡ Some row) (counted at (omega arith))
      (subst (λ rows. slice_get rows (length (front at)) ≡ Some row) front_whole all)

  -- where the round of a number begins, and its row
  pub record RoundTold (before : ℕ) : Type 0 where
    pub opening : ℕ
    pub begins : BeginsAt history (suc before) opening
    pub row : slice_get (round_rows p plan history) before ≡ Some (round_row p plan (suc before) (after p plan (take opening history)))

  module _ (legal : Legal p plan history) where
    all_begun : round_at history (length history) ≡ rounds_begun history
    all_begun = ap round_of (take_all (length history) history (omega arith)) ∙ open_round p plan history legal

    pub round_told : (before : ℕ) → before < rounds_begun history → RoundTold before
    round_told before begun = at_opening (begun_before p plan history legal (suc before) (length history) (omega arith) (omega (arith, all_begun)))
      where
        at_opening : (k : ℕ) × (k < length history) × BeginsAt history (suc before) k → RoundTold before
        at_opening (k, inside, begins) =
            let next = opens_next p plan history legal (suc before) k begins in
            let count : rounds_begun (take k history) ≡ before = omega (arith, counted_at p plan history legal k) in
            record {
              opening = k;
              begins = begins;
              row = subst (λ n. slice_get (round_rows p plan history) n ≡ Some (round_row p plan (suc before) (after p plan (take k history)))) count (row_in_place (suc before) k begins);
            }

    pub rows_numbered : AreNumbered (round_rows p plan history)
    unfolding round_row
    rows_numbered k d inside =
        let told = round_told k (omega (arith, rows_counted)) in
        ap (λ (row : RoundRow). row.number) (get_or_from_slice_get (round_rows p plan history) k (round_row p plan (suc k) (after p plan (take told.opening history))) d told.row)
