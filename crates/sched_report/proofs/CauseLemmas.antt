-- Rows of Fails that may have no explanation. Where a policy meets its obligations, all of them have one, and then they
-- are the rows of Fails.
use Rattle.std.proofs.Common.{◌≡◌, ℕ, suc, ◌+◌, List, [], ◌∷◌, Option, None, Some, All, length, get_or, map, refl, sym, ap, ap₂, subst, ◌∙◌, arith}
use Rattle.std.specs.Prelude.{IsSome, filter_map}
use Rattle.std.specs.List.{cons_option, enumerate_from}
use Rattle.std.proofs.lemmas.List.{get_or-map, length-map, same_lists}
use Rattle.std.proofs.lemmas.List.Elements.{All-cons, All-head, All-nil, All-tail, All-weaker}
use mathlib.Core.Option.{some}
use lib.ListN.{get_elem?}
use Rattle.policy_tree.specs.Meaning.{Meaning}
use Rattle.policy_eval.specs.Obligations.{MeetsObligations}
use Rattle.round_model.specs.declared.entry.Entry.{Entry}
use Rattle.round_model.specs.declared.entry.Entry.TheVariants as entry
use Rattle.round_model.specs.declared.plan.Plan.{Plan}
use Rattle.round_model.specs.Explains.{Explains}
use Rattle.round_model.specs.Fits.{Fits}
use Rattle.round_model.specs.Legal.{Legal}
use Rattle.round_laws.proofs.FailedSteals.{failed_steals}
use Rattle.sched_report.specs.CauseRows.{AreCauseRows, HasCause, IsCause, with_cause}
use Rattle.sched_report.specs.FailRows.{AreFailRows, IsFailRow, fail_at, fail_positions}
use Rattle.sched_report.specs.declared.rows.CauseRow.{CauseRow}
use Rattle.sched_report.specs.declared.rows.FailRow.{FailRow}

abbrev at_of : CauseRow → ℕ
at_of row = row.at

abbrev fail_of : FailRow → ℕ
fail_of row = row.at

-- a Fail stands at that place of the entries, which are counted from a number on
record FailStands (from : ℕ) (h : List Entry) (position : ℕ) : Type 0 where
  place : ℕ
  counted : position ≡ from + place
  by : ℕ
  victim : ℕ
  reads : List ℕ
  there : get_elem? h place ≡ some (entry.Fail by victim reads)

one_on : (n : ℕ) (e : Entry) (es : List Entry) (position : ℕ) → FailStands (n + 1) es position → FailStands n (e ∷ es) position
one_on n e es position is = record {
  place = suc is.place;
  counted = let counted = is.counted in omega arith;
  by = is.by;
  victim = is.victim;
  reads = is.reads;
  there = is.there;
}

one_more : (n : ℕ) (e : Entry) (es : List Entry) (rest : List ℕ) → All (FailStands n (e ∷ es)) rest → All (FailStands n (e ∷ es)) (cons_option (fail_at (n, e)) rest)
one_more n (entry.Round number) es rest all = all
one_more n (entry.Enter thread by to reads) es rest all = all
one_more n (entry.Wake thread by to reads) es rest all = all
one_more n (entry.Work by what) es rest all = all
one_more n (entry.Steal by from threads reads) es rest all = all
one_more n (entry.Pass by reads) es rest all = all
one_more n (entry.Fail by from reads) es rest all =
    All-cons (FailStands n (entry.Fail by from reads ∷ es)) n rest (record { place = 0; counted = omega arith; by = by; victim = from; reads = reads; there = refl }) all

fails_stand : (n : ℕ) (h : List Entry) → All (FailStands n h) (filter_map fail_at (enumerate_from n h))
fails_stand n [] = All-nil (FailStands n [])
fails_stand n (e ∷ es) =
    let rest = filter_map fail_at (enumerate_from (n + 1) es) in
    one_more n e es rest (All-weaker (FailStands (n + 1) es) (FailStands n (e ∷ es)) (one_on n e es) rest (fails_stand (n + 1) es))

module _ (p : Meaning) (plan : Plan) (history : List Entry) where
  abbrev HasItsCause : CauseRow → Type 0
  HasItsCause row = IsCause p plan history row.at row.by

  -- a Fail has one cause or none
  one_cause : (at : ℕ) (o q : Option ℕ) → IsCause p plan history at o → IsCause p plan history at q → o ≡ q
  one_cause at None None one other = refl
  one_cause at None (Some k) one other = absurd (one k other.explains)
  one_cause at (Some k) None one other = absurd (other k one.explains)
  one_cause at (Some k) (Some m) one other =
      let low = one.first m other.explains in let high = other.first k one.explains in let same : k ≡ m = omega arith in ap Some same

  same_row : (x y : CauseRow) → x.at ≡ y.at → HasItsCause x → HasItsCause y → x ≡ y
  same_row x y at one other =
      let row : ℕ → Option ℕ → CauseRow = λ a b. record { at = a; by = b } in
      ap₂ row at (one_cause x.at x.by y.by one (subst (λ k. IsCause p plan history k y.by) (sym at) other))

  pub one_causes : (xs ys : List CauseRow) → AreCauseRows p plan history xs → AreCauseRows p plan history ys → xs ≡ ys
  one_causes xs ys one other =
      let positions : map at_of xs ≡ map at_of ys = one.positions ∙ sym other.positions in
      let long : length xs ≡ length ys = omega (arith, ap length positions, length-map xs at_of, length-map ys at_of) in
      same_lists xs ys long
      (λ k d inside.
      let x = get_or xs k d in let y = get_or ys k d in
      let at : x.at ≡ y.at =
      sym (get_or-map at_of xs k d 0 inside) ∙ (ap (λ positions. get_or positions k 0) positions ∙ get_or-map at_of ys k d 0 (omega (arith, long))) in
      same_row x y at (one.each k d inside) (other.each k d (omega (arith, long))))

  same_positions : (fails : List FailRow) → map at_of (map with_cause fails) ≡ map fail_of fails
  same_positions [] = refl
  same_positions (row ∷ rows) = ap (λ rest. row.at ∷ rest) (same_positions rows)

  -- rows that all have a cause are rows of Fails, and the other way round
  pub fails_are : (fails : List FailRow) → AreCauseRows p plan history (map with_cause fails) → AreFailRows p plan history fails
  fails_are fails are = record {
    positions = sym (same_positions fails) ∙ are.positions;
    each = λ k d inside.
        let there = are.each k (with_cause d) (omega (arith, length-map fails with_cause)) in
        let is : HasItsCause (with_cause (get_or fails k d)) = subst HasItsCause (get_or-map with_cause fails k d (with_cause d) inside) there in
        record { explains = is.explains; first = is.first };
  }

  caused : (row : FailRow) → IsFailRow p plan history row → HasItsCause (with_cause row)
  caused row is = record { explains = is.explains; first = is.first }

  all_caused : (rows : List FailRow) → All (IsFailRow p plan history) rows → All HasItsCause (map with_cause rows)
  all_caused [] all = All-nil HasItsCause
  all_caused (row ∷ rows) all =
      All-cons HasItsCause (with_cause row) (map with_cause rows) (caused row (All-head (IsFailRow p plan history) row rows all)) (all_caused rows (All-tail (IsFailRow p plan history) row rows all))

  pub causes_are : (fails : List FailRow) → AreFailRows p plan history fails → AreCauseRows p plan history (map with_cause fails)
  causes_are fails are = record { positions = same_positions fails ∙ are.positions; each = all_caused fails are.each }

  module _ (fits : Fits p plan) (meets : MeetsObligations p) (legal : Legal p plan history) where
    has_cause : (at : ℕ) (o : Option ℕ) → FailStands 0 history at → IsCause p plan history at o → IsSome o
    has_cause at None stands none =
        let here : stands.place ≡ at = (let counted = stands.counted in omega arith) in
        let found = failed_steals p plan history fits meets legal stands.place stands.by stands.victim stands.reads stands.there in
        absurd (none found.cause (subst (λ k. Explains p plan history k found.cause) here found.explains))
    has_cause at (Some k) stands is = refl

    -- no Fail is unexplained
    pub all_have_causes : (rows : List CauseRow) → AreCauseRows p plan history rows → All HasCause rows
    all_have_causes rows are k d inside =
        let row = get_or rows k d in
        let long : length (fail_positions history) ≡ length rows = sym (ap length are.positions) ∙ length-map rows at_of in
        let at : get_or (fail_positions history) k 0 ≡ row.at = ap (λ positions. get_or positions k 0) (sym are.positions) ∙ get_or-map at_of rows k d 0 inside in
        has_cause row.at row.by (subst (FailStands 0 history) at (fails_stand 0 history k 0 (omega (arith, long)))) (are.each k d inside)
