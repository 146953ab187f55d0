-- What was told of a whole history is its report.
use Rattle.std.proofs.Common.{◌≡◌, ℕ, ◌+◌, ◌*◌, ◌≤◌, Bool, true, false, cond, List, [], ◌∷◌, None, Some, length, map, refl, sym, ap, subst, ◌∙◌, arith}
use Rattle.std.specs.Prelude.{count_by, filter_map}
use Rattle.std.specs.List.{cons_option, enumerate_from}
use Rattle.std.proofs.lemmas.List.{length-map}
use Rattle.std.proofs.lemmas.List.Elements.{All-weaker}
use Rattle.std.proofs.lemmas.List.Sums.{sum_by-cons}
use Rattle.policy_tree.specs.Meaning.{Meaning}
use Rattle.policy_eval.specs.Obligations.{MeetsObligations}
use Rattle.round_model.specs.declared.entry.Entry.{Entry}
use Rattle.round_model.specs.declared.plan.Plan.{Plan}
use Rattle.round_model.specs.Fits.{Fits}
use Rattle.round_model.specs.Kinds.{is_fail}
use Rattle.round_model.specs.Legal.{Legal, Whole}
use Rattle.sched_report.specs.CauseRows.{AreCauseRows, with_cause}
use Rattle.sched_report.specs.FailRows.{fail_at}
use Rattle.sched_report.specs.Reports.{AddsUp, IsPaid, IsReport, totals_of}
use Rattle.sched_report.specs.Code.Runs.{AreNumbered, AreRuns}
use Rattle.sched_report.specs.Code.Tellings.{IsTold}
use Rattle.sched_report.specs.RestRows.{RestsInTime, rounds_before}
use Rattle.sched_report.specs.StillRows.{IsStillRow}
use Rattle.sched_report.specs.Code.Walks.{IsTally}
use Rattle.sched_report.specs.declared.rows.FailRow.{FailRow}
use Rattle.sched_report.specs.declared.rows.FullReport.{FullReport}
use Rattle.sched_report.specs.declared.rows.StillRow.{StillRow}
use Rattle.sched_report.specs.declared.rows.Totals.{Totals}
use Rattle.sched_report.specs.declared.telling.Told.{Told}
use Rattle.sched_report.specs.declared.walk.Tally.{Tally}
use Rattle.sched_report.proofs.CauseLemmas.{fails_are}
use Rattle.sched_report.proofs.PaidLemmas.{paid_row}
use Rattle.sched_report.proofs.RestRows.{rests_in_time}
use Rattle.sched_report.proofs.RoundRowLemmas.{rows_counted, rows_numbered}
use Rattle.sched_report.proofs.StretchLemmas.{are_still_rows}

abbrev one_if : Bool → ℕ
one_if b = cond b 1 0

-- there are as many positions of Fails as Fails
fails_counted : (n : ℕ) (h : List Entry) → length (filter_map fail_at (enumerate_from n h)) ≡ count_by is_fail h
fails_counted n [] = refl
fails_counted n (e ∷ es) = by_test (is_fail e) refl (fails_counted (n + 1) es)
  where
    by_test : (b : Bool) → is_fail e ≡ b → length (filter_map fail_at (enumerate_from (n + 1) es)) ≡ count_by is_fail es
        → length (cons_option (cond b (Some n) None) (filter_map fail_at (enumerate_from (n + 1) es))) ≡ count_by is_fail (e ∷ es)
    by_test true is rest = let one : one_if (is_fail e) ≡ 1 = ap one_if is in omega (arith, sum_by-cons (λ x. one_if (is_fail x)) e es)
    by_test false is rest = let none : one_if (is_fail e) ≡ 0 = ap one_if is in omega (arith, sum_by-cons (λ x. one_if (is_fail x)) e es)

module _ (p : Meaning) (plan : Plan) (history : List Entry) where
  module _ (legal : Legal p plan history) (tally : Tally) (is : IsTally p plan history tally) where
    -- a flag for each round, and the rounds in order
    pub flags_counted : length tally.still ≡ length tally.rounds
    flags_counted = is.still.count ∙ sym (ap length is.rounds ∙ rows_counted p plan history)

    pub rounds_numbered : AreNumbered tally.rounds
    rounds_numbered = subst AreNumbered (sym is.rounds) (rows_numbered p plan history legal)

    -- what is told for both kinds of report
    pub told_is : (told : Told) → told.rounds ≡ tally.rounds → AreRuns tally.still tally.rounds told.stills → told.causes ≡ tally.causes → told.totals ≡ totals_of history tally.rounds
        → IsTold p plan history told
    told_is told rounds runs causes totals = record {
      rounds = rounds ∙ is.rounds;
      stills = are_still_rows p plan history legal tally.still is.still told.stills (subst (λ rows. AreRuns tally.still rows told.stills) is.rounds runs);
      causes = subst (AreCauseRows p plan history) (sym causes) is.causes;
      totals = totals ∙ ap (totals_of history) is.rounds;
    }

  module _ (told : Told) (is : IsTold p plan history told) (fails : List FailRow) (same : map with_cause fails ≡ told.causes) where
    -- the report whose failed steals all have a cause
    abbrev report : FullReport
    report = record { rounds = told.rounds; stills = told.stills; fails = fails; totals = told.totals }

    pub report_is : IsReport p plan history report
    report_is = record {
      rounds = is.rounds;
      stills = is.stills;
      fails = fails_are p plan history fails (subst (AreCauseRows p plan history) (sym same) is.causes);
      totals = is.totals;
    }

    pub report_paid : Whole p plan history → Fits p plan → MeetsObligations p → IsPaid report
    report_paid whole fits meets = All-weaker (IsStillRow p plan history) (λ (row : StillRow). 2 * row.bad ≤ row.spread) (paid_row p plan history whole fits meets) told.stills is.stills.each

    pub report_rests : Whole p plan history → Fits p plan → MeetsObligations p → RestsInTime report
    report_rests whole fits meets = All-weaker (IsStillRow p plan history) (λ (row : StillRow). 2 * rounds_before row.first row.last row.rest ≤ row.spread) (rests_in_time p plan history whole fits meets) told.stills is.stills.each

    pub report_adds_up : AddsUp report
    unfolding totals_of
    report_adds_up =
        let totals : told.totals ≡ totals_of history told.rounds = is.totals ∙ ap (totals_of history) (sym is.rounds) in
        let number_of : FailRow → ℕ = λ row. row.at in
        record {
          rounds = ap (λ (t : Totals). t.rounds) totals ∙ sym (ap length is.rounds ∙ rows_counted p plan history);
          fails = ap (λ (t : Totals). t.fails) totals ∙ sym (sym (length-map fails number_of) ∙ (ap length report_is.fails.positions ∙ fails_counted 0 history));
          bad = ap (λ (t : Totals). t.bad) totals;
          wasted = ap (λ (t : Totals). t.wasted) totals;
        }
