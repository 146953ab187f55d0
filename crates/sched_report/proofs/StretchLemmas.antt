-- The runs of flagged rounds are the longest stretches of still rounds.
use Rattle.std.proofs.Common.{◌≡◌, ℕ, suc, ◌<◌, ◌≤◌, ◌⊎◌, inl, inr, Bool, true, false, List, length, take, refl, sym, ap, subst, ◌∙◌, arith}
use Rattle.std.specs.Prelude.{IsFalse}
use Rattle.std.proofs.lemmas.Bool.{cases_lt, false≢true}
use Rattle.std.proofs.lemmas.List.Elements.{All-contains, All-weaker}
use Rattle.std.proofs.lemmas.Option.{get_or_from_slice_get}
use mathlib.Core.Option.{some}
use lib.ListN.{get_elem?}
use Rattle.policy_tree.specs.Meaning.{Meaning}
use Rattle.round_model.specs.declared.entry.Entry.{Entry}
use Rattle.round_model.specs.declared.entry.Entry.TheVariants as entry
use Rattle.round_model.specs.declared.plan.Plan.{Plan}
use Rattle.round_model.specs.After.{after}
use Rattle.round_model.specs.Legal.{Legal, rounds_begun}
use Rattle.round_model.specs.Rounds.{IsStill, disturbs, round_at}
use Rattle.round_model.specs.Stretches.{IsStillStretch}
use Rattle.sched_report.specs.RoundRows.{round_row, round_rows}
use Rattle.sched_report.specs.Code.Runs.{AreRuns, IsCovered, IsRun, is_flagged}
use Rattle.sched_report.specs.StillRows.{AreStillRows, HasRow, IsLongest, IsStillRow}
use Rattle.sched_report.specs.Code.Walks.{AreFlags}
use Rattle.sched_report.specs.declared.rows.RoundRow.{RoundRow}
use Rattle.sched_report.specs.declared.rows.StillRow.{StillRow}
use Rattle.sched_report.proofs.RoundRowLemmas.{round_told}
use Rattle.sched_report.proofs.RunLemmas.{past_flags}

-- a stretch of still rounds has still rounds
still_one : (h : List Entry) (first last r : ℕ) → IsStill h first last → first ≤ r → r ≤ last → IsStill h r r
still_one h first last r still low high k e is from to = still k e is (omega arith) (omega arith)

module _ (h : List Entry) (flags : List Bool) (are : AreFlags h flags) where
  flag_within : (r : ℕ) → is_flagged flags r ≡ true → r ≤ rounds_begun h
  flag_within r flagged = by_order (cases_lt (length flags) r)
    where
      by_order : (length flags < r) ⊎ (r ≤ length flags) → r ≤ rounds_begun h
      by_order (inl past) = absurd (false≢true (sym (past_flags flags r past) ∙ flagged))
      by_order (inr within) = let count = are.count in omega arith

  -- a round of a still stretch has a flag
  stretch_flag : (first last r : ℕ) → IsStillStretch h first last → first ≤ r → r ≤ last → is_flagged flags r ≡ true
  stretch_flag first last r is low high = by_flag (is_flagged flags r) refl
    where
      by_flag : (b : Bool) → is_flagged flags r ≡ b → b ≡ true
      by_flag true flag = refl
      by_flag false flag =
          let positive = is.positive in let begun = is.begun in let count = are.count in
          absurd (are.stirred r (omega arith) (omega arith) flag (still_one h first last r is.still low high))

  module _ (rounds : List RoundRow) (row : StillRow) (run : IsRun flags rounds row) where
    -- a run is a stretch
    run_stretch : IsStillStretch h row.first row.last
    run_stretch = record {
      positive = let first = run.run.first_is in omega arith;
      ordered = run.run.ordered;
      begun = flag_within row.last (run.run.all row.last run.run.ordered (omega arith));
      still = λ k e is low high. are.still (round_at h k) (run.run.all (round_at h k) low high) k e is (omega arith) (omega arith);
    }

    -- and no other contains it
    run_alone : (from to : ℕ) → IsStillStretch h from to → from ≤ row.first → row.last ≤ to → (from ≡ row.first) × (to ≡ row.last)
    run_alone from to is low high = (by_first (cases_lt from row.first), by_last (cases_lt row.last to))
      where
        by_first : (from < row.first) ⊎ (row.first ≤ from) → from ≡ row.first
        by_first (inl less) =
            let first = run.run.first_is in let order = run.run.ordered in
            absurd (false≢true (sym run.run.starts ∙ stretch_flag from to run.run.before is (omega arith) (omega arith)))
        by_first (inr same) = omega arith

        by_last : (row.last < to) ⊎ (to ≤ row.last) → to ≡ row.last
        by_last (inl less) =
            let order = run.run.ordered in
            absurd (false≢true (sym run.ends ∙ stretch_flag from to (suc row.last) is (omega arith) (omega arith)))
        by_last (inr same) = omega arith

    run_longest : IsLongest h row.first row.last
    run_longest = record { still = run_stretch; alone = run_alone }

module _ (p : Meaning) (plan : Plan) (h : List Entry) (legal : Legal p plan h) (flags : List Bool) (are : AreFlags h flags) where
  still_row : (row : StillRow) → IsRun flags (round_rows p plan h) row → IsStillRow p plan h row
  unfolding round_row
  still_row row run =
      let before = run.run.before in
      let first = run.run.first_is in
      let order = run.run.ordered in
      let stretch = run_stretch h flags are (round_rows p plan h) row run in
      let begun = stretch.begun in
      let told = round_told p plan h legal before (omega arith) in
      let opens = round_row p plan (suc before) (after p plan (take told.opening h)) in
      record {
        longest = run_longest h flags are (round_rows p plan h) row run;
        opening = told.opening;
        begins = subst (λ n. get_elem? h told.opening ≡ some (entry.Round n)) (sym first) told.begins;
        spread = run.run.spread opens ∙ ap (λ (x : RoundRow). x.spread) (get_or_from_slice_get (round_rows p plan h) before opens opens told.row);
        bad = run.run.bad;
        rest = run.run.rest;
      }

  -- each longest stretch has a row
  has_row : (rows : List StillRow) → AreRuns flags (round_rows p plan h) rows → (first last : ℕ) → IsLongest h first last → HasRow rows first last
  has_row rows runs first last is = by_end (cases_lt found.row.last last)
    where
      found : IsCovered rows first
      found = let order = is.still.ordered in runs.all first (stretch_flag h flags are first last first is.still (omega arith) (omega arith))

      run : IsRun flags (round_rows p plan h) found.row
      run = All-contains (IsRun flags (round_rows p plan h)) rows found.row runs.each found.among

      longest : IsLongest h found.row.first found.row.last
      longest = run_longest h flags are (round_rows p plan h) found.row run

      -- the two together are a stretch
      joined : found.row.last < last → IsStillStretch h found.row.first last
      joined less =
          let low = found.from in let high = found.to in
          record {
            positive = longest.still.positive;
            ordered = omega arith;
            begun = is.still.begun;
            still = λ k e there from to. by_round k e there from to (cases_lt found.row.last (round_at h k));
          }
        where
          by_round : (k : ℕ) (e : Entry) → get_elem? h k ≡ some e → found.row.first ≤ round_at h k → round_at h k ≤ last
              → (found.row.last < round_at h k) ⊎ (round_at h k ≤ found.row.last) → IsFalse (disturbs e)
          by_round k e there from to (inl later) = is.still.still k e there (let high = found.to in omega arith) to
          by_round k e there from to (inr earlier) = longest.still.still k e there from earlier

      by_end : (found.row.last < last) ⊎ (last ≤ found.row.last) → HasRow rows first last
      by_end (inl less) =
          let order = is.still.ordered in
          let same = longest.alone found.row.first last (joined less) (omega arith) (omega arith) in
          absurd (let end = same.1 in omega arith)
      by_end (inr within) =
          let same = is.alone found.row.first found.row.last longest.still found.from within in
          record { row = found.row; among = found.among; first_is = same.0; last_is = same.1 }

  pub are_still_rows : (rows : List StillRow) → AreRuns flags (round_rows p plan h) rows → AreStillRows p plan h rows
  are_still_rows rows runs = record {
    each = All-weaker (IsRun flags (round_rows p plan h)) (IsStillRow p plan h) still_row rows runs.each;
    all = has_row rows runs;
    ordered = runs.ordered;
  }
