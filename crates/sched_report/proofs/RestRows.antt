-- What the row of a stretch says of rest is so of its history, and its rounds before rest are paid for.
use Rattle.std.proofs.Common.{◌≡◌, ℕ, zero, suc, ◌+◌, ◌-◌, ◌*◌, ◌<◌, ◌≤◌, ◌&&◌, Bool, true, false, cond, List, [], ◌∷◌, Option, None, Some, All, get_or, take, refl, sym, ap, subst, ◌∙◌, arith}
use Rattle.std.specs.Prelude.{nat_le, slice_get}
use Rattle.std.specs.List.{range_with_len}
use Rattle.std.specs.List.Sorted.{IsStrictlyIncreasing}
use Rattle.std.specs.Option.{option_or}
use Rattle.std.proofs.lemmas.List.FromFn.{get_or-range_with_len, length-range_with_len}
use Rattle.std.proofs.lemmas.Option.{get_or_from_slice_get, slice_get_within}
use Rattle.policy_tree.specs.Meaning.{Meaning}
use Rattle.policy_eval.specs.Obligations.{MeetsObligations}
use Rattle.round_model.specs.declared.entry.Entry.{Entry}
use Rattle.round_model.specs.declared.plan.Plan.{Plan}
use Rattle.round_model.specs.After.{after}
use Rattle.round_model.specs.Fits.{Fits}
use Rattle.round_model.specs.Legal.{Legal, Whole, rounds_begun}
use Rattle.round_model.specs.Rounds.{BeginsAt}
use Rattle.round_laws.specs.Rest.{IsRestless, RestlessAt}
use Rattle.round_laws.proofs.MoveObligations.{move_obligations}
use Rattle.round_laws.proofs.Rest.{rest_law}
use Rattle.sched_report.specs.RestRows.{IsFirstRest, IsLeastWidth, OpenRestless, RestRowsLaw, SaysOfRest, rounds_before}
use Rattle.sched_report.specs.Rests.{first_rest, rest_told, rest_within}
use Rattle.sched_report.specs.RoundRows.{round_row, round_rows}
use Rattle.sched_report.specs.StillRows.{IsStillRow}
use Rattle.sched_report.specs.declared.rows.RestRow.{RestRow}
use Rattle.sched_report.specs.declared.rows.RoundRow.{RoundRow}
use Rattle.sched_report.specs.declared.rows.StillRow.{StillRow}
use Rattle.sched_report.proofs.LastRounds.{attempts}
use Rattle.sched_report.proofs.PaidLemmas.{IsRowOf, both, each_row, is_low}
use Rattle.sched_report.proofs.RestFacts.{RestTold, told_rest, told_restless, width_least}
use Rattle.sched_report.proofs.RoundRowLemmas.{round_told, row_in_place, rows_numbered}
use Rattle.sched_report.proofs.RunCounts.{is_le}

module _ (first last : ℕ) where
  abbrev picked : Bool → Option RestRow → Option RestRow
  picked b o = cond b o None

  record TellsRest (row : RoundRow) (rest : RestRow) : Type 0 where
    from : first ≤ row.number
    to : row.number ≤ last
    told : rest_told row ≡ Some rest

  within_some : (row : RoundRow) (rest : RestRow) → rest_within first last row ≡ Some rest → TellsRest row rest
  within_some row rest is = by_test (nat_le first row.number && nat_le row.number last) refl is
    where
      by_test : (b : Bool) → (nat_le first row.number && nat_le row.number last) ≡ b → picked b (rest_told row) ≡ Some rest → TellsRest row rest
      by_test true inside told =
          let ends = both (nat_le first row.number) (nat_le row.number last) inside in
          record { from = is_low first row.number ends.0; to = is_low row.number last ends.1; told = told }
      by_test false outside told = absurd (cc)

  within_none : (row : RoundRow) → first ≤ row.number → row.number ≤ last → rest_within first last row ≡ None → rest_told row ≡ None
  within_none row low high is =
      sym (ap (λ b. picked (b && nat_le row.number last) (rest_told row)) (is_le first row.number low)
      ∙ ap (λ b. picked b (rest_told row)) (is_le row.number last high))
      ∙ is

  -- the first row that tells of rest, and those before it tell nothing
  record Found (rows : List RoundRow) (rest : RestRow) : Type 0 where
    at : ℕ
    row : RoundRow
    there : slice_get rows at ≡ Some row
    is : rest_within first last row ≡ Some rest
    before : (j : ℕ) (x : RoundRow) → j < at → slice_get rows j ≡ Some x → rest_within first last x ≡ None

  found : (rows : List RoundRow) (rest : RestRow) → first_rest rows first last ≡ Some rest → Found rows rest
  found [] rest is = absurd (cc)
  found (row ∷ rows) rest is = by_row (rest_within first last row) refl is (found rows rest)
    where
      by_row : (o : Option RestRow) → rest_within first last row ≡ o → option_or o (first_rest rows first last) ≡ Some rest
          → (first_rest rows first last ≡ Some rest → Found rows rest) → Found (row ∷ rows) rest
      by_row (Some other) here told later = record { at = 0; row = row; there = refl; is = here ∙ told; before = λ j x less. absurd (omega arith) }
      by_row None here told later =
          let rest_found = later told in
          record { at = suc rest_found.at; row = rest_found.row; there = rest_found.there; is = rest_found.is; before = earlier rest_found }
        where
          earlier : (f : Found rows rest) (j : ℕ) (x : RoundRow) → j < suc f.at → slice_get (row ∷ rows) j ≡ Some x → rest_within first last x ≡ None
          earlier f zero x less same = let is_row : row ≡ x = cc in ap (rest_within first last) (sym is_row) ∙ here
          earlier f (suc j) x less same = f.before j x (omega arith) same

  none_found : (rows : List RoundRow) (j : ℕ) (x : RoundRow) → first_rest rows first last ≡ None → slice_get rows j ≡ Some x → rest_within first last x ≡ None
  none_found [] j x none is = absurd (cc)
  none_found (row ∷ rows) j x none is = by_row (rest_within first last row) refl none (none_found rows)
    where
      by_row : (o : Option RestRow) → rest_within first last row ≡ o → option_or o (first_rest rows first last) ≡ None
          → ((i : ℕ) (y : RoundRow) → first_rest rows first last ≡ None → slice_get rows i ≡ Some y → rest_within first last y ≡ None)
          → rest_within first last x ≡ None
      by_row (Some other) here told later = absurd (cc)
      by_row None here told later = at_place j is
        where
          at_place : (i : ℕ) → slice_get (row ∷ rows) i ≡ Some x → rest_within first last x ≡ None
          at_place zero same = let is_row : row ≡ x = cc in ap (rest_within first last) (sym is_row) ∙ here
          at_place (suc i) same = later i x told same

module _ (p : Meaning) (plan : Plan) (history : List Entry) (legal : Legal p plan history) (first last : ℕ) where
  abbrev rows : List RoundRow
  rows = round_rows p plan history

  -- the row of a round of those, where nothing is told of rest before
  opens_restless : (number opening : ℕ) → BeginsAt history number opening → first ≤ number → number ≤ last
      → rest_within first last (round_row p plan number (after p plan (take opening history))) ≡ None → RestlessAt p plan history opening
  unfolding round_row
  opens_restless number opening begins low high none =
      let m = after p plan (take opening history) in
      told_restless p plan m number (within_none first last (round_row p plan number m) low high none)

  place_of : (j number opening : ℕ) → slice_get rows j ≡ Some (round_row p plan number (after p plan (take opening history))) → number ≡ suc j
  unfolding round_row
  place_of j number opening is =
      let row = round_row p plan number (after p plan (take opening history)) in
      sym (ap (λ (x : RoundRow). x.number) (get_or_from_slice_get rows j row row is))
      ∙ rows_numbered p plan history legal j row (slice_get_within rows j row is)

  says_of_rest : (o : Option RestRow) → first_rest rows first last ≡ o → SaysOfRest p plan history first last o
  unfolding round_row
  says_of_rest None none = λ number opening low less begins.
      opens_restless number opening begins low (omega arith)
      (none_found first last rows (rounds_begun (take opening history)) (round_row p plan number (after p plan (take opening history))) none (row_in_place p plan history number opening begins))
  says_of_rest (Some rest) is = from_found (found first last rows rest is)
    where
      from_row : (f : Found first last rows rest) → IsRowOf p plan history f.row → TellsRest first last f.row rest → IsFirstRest p plan history first last rest
      from_row f row tells =
          let m = after p plan (take row.opening history) in
          let told : RestTold p plan m (suc row.before) rest = told_rest p plan m (suc row.before) rest (sym (ap rest_told row.is) ∙ tells.told) in
          let number : f.row.number ≡ suc row.before = ap (λ (x : RoundRow). x.number) row.is in
          let low = tells.from in let high = tells.to in let round = told.round_is in
          record {
            from = omega arith;
            to = omega arith;
            opening = row.opening;
            begins = subst (λ n. BeginsAt history n row.opening) (sym told.round_is) row.begins;
            rests = told.rests;
            gap = subst (IsLeastWidth plan m) (sym told.gap_is) (width_least plan m);
            earlier = λ other opening least less begins.
                let x = round_row p plan other (after p plan (take opening history)) in
                let j = rounds_begun (take opening history) in
                let there = row_in_place p plan history other opening begins in
                let place : other ≡ suc j = place_of j other opening there in
                let here : f.row.number ≡ suc f.at =
                sym (ap (λ (x : RoundRow). x.number) (get_or_from_slice_get rows f.at f.row f.row f.there)) ∙ rows_numbered p plan history legal f.at f.row (slice_get_within rows f.at f.row f.there) in
                opens_restless other opening begins least (omega arith) (f.before j x (omega arith) there);
          }

      from_found : Found first last rows rest → IsFirstRest p plan history first last rest
      from_found f =
          let inside = slice_get_within rows f.at f.row f.there in
          from_row f
          (subst (IsRowOf p plan history) (get_or_from_slice_get rows f.at f.row f.row f.there) (each_row p plan history legal f.at f.row inside))
          (within_some first last f.row rest f.is)

pub rest_rows : RestRowsLaw
rest_rows p plan history row legal is = says_of_rest p plan history legal row.first row.last row.rest (sym is.rest)

-- the numbers of the rounds before rest rise
rising_numbers : (a n : ℕ) → IsStrictlyIncreasing (range_with_len a n)
rising_numbers a n k inside =
    let size = length-range_with_len a n in
    omega (arith, get_or-range_with_len a n k 0 (omega arith), get_or-range_with_len a n (k + 1) 0 (omega arith))

module _ (p : Meaning) (plan : Plan) (history : List Entry) (whole : Whole p plan history) (fits : Fits p plan) (meets : MeetsObligations p) where
  abbrev IsPaidUpTo : StillRow → ℕ → Type 0
  IsPaidUpTo row end = 2 * (end - row.first) ≤ row.spread

  restless_round : (number : ℕ) → 0 < number → number ≤ rounds_begun history → ((opening : ℕ) → BeginsAt history number opening → RestlessAt p plan history opening) → IsRestless p plan history number
  restless_round zero positive begun opens = absurd (omega arith)
  restless_round (suc before) positive begun opens =
      let told = round_told p plan history whole.legal before (omega arith) in
      record {
        position = told.opening;
        begins = told.begins;
        complete = attempts p plan history whole (suc before) told.opening told.begins (omega arith) begun;
        restless = opens told.opening told.begins;
      }

  rest_paid : (row : StillRow) → IsStillRow p plan history row → (end : ℕ) → row.first ≤ end → end ≤ suc row.last → OpenRestless p plan history row.first end → IsPaidUpTo row end
  rest_paid row is end low high restless =
      let n = end - row.first in
      let stretch = is.longest.still in
      let size = length-range_with_len row.first n in
      let paid = (rest_law p plan history fits (move_obligations p meets) whole.legal).restless_rounds_paid row.first row.last is.opening (range_with_len row.first n) stretch is.begins (rising_numbers row.first n) each in
      let spread = is.spread in
      omega arith
    where
      each : All (λ number. (row.first ≤ number) × (number ≤ row.last) × IsRestless p plan history number) (range_with_len row.first (end - row.first))
      each k d inside =
          let size = length-range_with_len row.first (end - row.first) in
          let number = get_or (range_with_len row.first (end - row.first)) k d in
          let here = get_or-range_with_len row.first (end - row.first) k d (omega arith) in
          let positive = is.longest.still.positive in
          let begun = is.longest.still.begun in
          (omega arith, omega arith, restless_round number (omega arith) (omega arith) (λ opening begins. restless number opening (omega arith) (omega arith) begins))

  pub rests_in_time : (row : StillRow) → IsStillRow p plan history row → 2 * rounds_before row.first row.last row.rest ≤ row.spread
  rests_in_time row is = by_rest row.rest (rest_rows p plan history row whole.legal is)
    where
      by_rest : (o : Option RestRow) → SaysOfRest p plan history row.first row.last o → 2 * rounds_before row.first row.last o ≤ row.spread
      by_rest None says = let order = is.longest.still.ordered in rest_paid row is (suc row.last) (omega arith) (omega arith) says
      by_rest (Some rest) says = let to = says.to in rest_paid row is rest.round says.from (omega arith) says.earlier
