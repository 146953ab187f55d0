-- Reports that tell of waste: there is one, and of a policy that meets its obligations it says what the report says.
use Rattle.std.proofs.Common.{◌≡◌, ℕ, List, length, get_or, map, sym, ap, ap₂, ◌∙◌, arith}
use Rattle.std.proofs.lemmas.List.{get_or-map, length-map, same_lists}
use Rattle.policy_tree.specs.Meaning.{Meaning}
use Rattle.round_model.specs.declared.entry.Entry.{Entry}
use Rattle.round_model.specs.declared.plan.Plan.{Plan}
use Rattle.round_model.specs.Legal.{Legal}
use Rattle.sched_report.specs.CauseRows.{with_cause}
use Rattle.sched_report.specs.Laws.{WasteLaw}
use Rattle.sched_report.specs.Reports.{IsReport}
use Rattle.sched_report.specs.StretchRows.{AreStretchRows, HasSteals, steals_within, still_of}
use Rattle.sched_report.specs.Wastes.{IsWaste, SaysTheSame}
use Rattle.sched_report.specs.declared.rows.CauseRow.{CauseRow}
use Rattle.sched_report.specs.declared.rows.FullReport.{FullReport}
use Rattle.sched_report.specs.declared.rows.RoundRow.{RoundRow}
use Rattle.sched_report.specs.declared.rows.StillRow.{StillRow}
use Rattle.sched_report.specs.declared.rows.StretchRow.{StretchRow}
use Rattle.sched_report.specs.declared.rows.Totals.{Totals}
use Rattle.sched_report.specs.declared.rows.WasteReport.{WasteReport}
use Rattle.sched_report.proofs.CauseLemmas.{all_have_causes, causes_are, one_causes}
use Rattle.sched_report.proofs.OneReport.{one_stills}

module _ (p : Meaning) (plan : Plan) (history : List Entry) where
  same_row : (x y : StretchRow) → x.still ≡ y.still → HasSteals history x → HasSteals history y → x ≡ y
  same_row x y still one other =
      let row : StillRow → ℕ → StretchRow = λ s n. record { still = s; steals = n } in
      ap₂ row still (one ∙ (ap (λ (s : StillRow). steals_within history s.first s.last) still ∙ sym other))

  module _ (legal : Legal p plan history) where
    one_stretches : (xs ys : List StretchRow) → AreStretchRows p plan history xs → AreStretchRows p plan history ys → xs ≡ ys
    one_stretches xs ys one other =
        let stills : map still_of xs ≡ map still_of ys = one_stills p plan history legal (map still_of xs) (map still_of ys) one.stills other.stills in
        let long : length xs ≡ length ys = omega (arith, ap length stills, length-map xs still_of, length-map ys still_of) in
        same_lists xs ys long
        (λ k d inside.
        let x = get_or xs k d in let y = get_or ys k d in
        let still : x.still ≡ y.still =
        sym (get_or-map still_of xs k d d.still inside) ∙ (ap (λ rows. get_or rows k d.still) stills ∙ get_or-map still_of ys k d d.still (omega (arith, long))) in
        same_row x y still (one.steals k d inside) (other.steals k d (omega (arith, long))))

    one_waste : (one other : WasteReport) → IsWaste p plan history one → IsWaste p plan history other → one ≡ other
    one_waste one other first second =
        let front : List RoundRow → List StretchRow → WasteReport = λ rounds stretches. record { rounds = rounds; stretches = stretches; causes = one.causes; totals = one.totals } in
        let rest : List CauseRow → Totals → WasteReport = λ causes totals. record { rounds = other.rounds; stretches = other.stretches; causes = causes; totals = totals } in
        ap₂ front (first.rounds ∙ sym second.rounds) (one_stretches one.stretches other.stretches first.stretches second.stretches)
        ∙ ap₂ rest (one_causes p plan history one.causes other.causes first.causes second.causes) (first.totals ∙ sym second.totals)

    says_the_same : (report : FullReport) (waste : WasteReport) → IsReport p plan history report → IsWaste p plan history waste → SaysTheSame report waste
    says_the_same report waste plain is = record {
      rounds = is.rounds ∙ sym plain.rounds;
      stretches = one_stills p plan history legal (map still_of waste.stretches) report.stills is.stretches.stills plain.stills;
      causes = one_causes p plan history waste.causes (map with_cause report.fails) is.causes (causes_are p plan history report.fails plain.fails);
      totals = is.totals ∙ sym plain.totals;
    }

pub waste_law : WasteLaw
waste_law = record {
  explained = λ p plan history rows fits meets legal are. all_have_causes p plan history fits meets legal rows are;
  same = λ p plan history report waste legal plain is. says_the_same p plan history legal report waste plain is;
  one = λ p plan history one other legal first second. one_waste p plan history legal one other first second;
}
