-- The bad rounds of a longest stretch are paid for.
use Rattle.std.proofs.Common.{◌≡◌, ℕ, zero, suc, ◌+◌, ◌*◌, ◌^◌, ◌<◌, ◌≤◌, ◌&&◌, Bool, true, false, cond, List, [], ◌∷◌, All, filter, length, get_or, map, take, refl, sym, ap, subst, ◌∙◌, arith}
use Rattle.std.specs.Prelude.{Contains, nat_le, sum_by, IsTrue, ◌↔◌}
use Rattle.std.specs.List.Sorted.{IsStrictlyIncreasing}
use Rattle.std.proofs.lemmas.Bool.{false≢true}
use Rattle.std.proofs.lemmas.Bool.Decides.{nat_tests}
use Rattle.std.proofs.lemmas.List.{length-map}
use Rattle.std.proofs.lemmas.List.Elements.{All-cons, All-contains, All-contains_itself, All-filter, All-map, All-weaker}
use Rattle.std.proofs.lemmas.List.Sums.{count_by-le-length, length-filter, sum_by-le}
use Rattle.std.proofs.lemmas.Option.{get_or_from_slice_get}
use Rattle.policy_tree.specs.Meaning.{Meaning}
use Rattle.policy_eval.specs.Obligations.{MeetsObligations}
use Rattle.round_model.specs.declared.entry.Entry.{Entry}
use Rattle.round_model.specs.declared.plan.Plan.{Plan}
use Rattle.round_model.specs.After.{after}
use Rattle.round_model.specs.Fits.{Fits}
use Rattle.round_model.specs.Kinds.{is_round}
use Rattle.round_model.specs.Legal.{Legal, Whole, rounds_begun}
use Rattle.round_model.specs.Limits.{IsWithinLimits}
use Rattle.round_model.specs.Rounds.{BeginsAt, IsBad}
use Rattle.round_model.specs.Spread.{Beside}
use Rattle.round_laws.proofs.Bests.{filtered_pass}
use Rattle.round_laws.proofs.RoundNumbers.{begins_once}
use Rattle.round_laws.proofs.StillRounds.{still_rounds}
use Rattle.sched_base.specs.declared.limits.TheConstants.{MAX_CORES, MAX_ENTRIES}
use Rattle.sched_report.specs.RoundRows.{is_bad, is_bad_within, round_row, round_rows}
use Rattle.sched_report.specs.StillRows.{IsStillRow}
use Rattle.sched_report.specs.declared.rows.RoundRow.{RoundRow}
use Rattle.sched_report.specs.declared.rows.StillRow.{StillRow}
use Rattle.sched_report.proofs.BesideLemmas.{bad_is_beside, beside_is_bad, few_idle}
use Rattle.sched_report.proofs.LastRounds.{attempts}
use Rattle.sched_report.proofs.RoundRowLemmas.{round_told, rows_counted, rows_numbered}
use Rattle.sched_report.proofs.RunCounts.{NumberedFrom, rest_numbered}

abbrev number_of : RoundRow → ℕ
number_of row = row.number

increasing_cons : (x : ℕ) (xs : List ℕ) → IsStrictlyIncreasing xs → All (λ y. x < y) xs → IsStrictlyIncreasing (x ∷ xs)
increasing_cons x xs rises above zero inside = above 0 0 (omega arith)
increasing_cons x xs rises above (suc k) inside =
    let next : suc k + 1 ≡ suc (k + 1) = omega arith in
    subst (λ i. get_or xs k 0 < get_or (x ∷ xs) i 0) (sym next) (rises k (omega arith))

-- the numbers of the rows that pass rise
abbrev Rises : ℕ → List RoundRow → Type 0
Rises k kept = IsStrictlyIncreasing (map number_of kept) × All (λ n. k < n) (map number_of kept)

numbers_rise : (test : RoundRow → Bool) (k : ℕ) (rows : List RoundRow) → NumberedFrom k rows → Rises k (filter test rows)
numbers_rise test k [] numbered = (λ j inside. absurd (omega arith), λ j d inside. absurd (omega arith))
numbers_rise test k (row ∷ rows) numbered = by_test (test row) (numbers_rise test (suc k) rows (rest_numbered k row rows numbered))
  where
    number : row.number ≡ suc k
    number = let first = numbered 0 row (omega arith) in omega arith

    by_test : (b : Bool) → Rises (suc k) (filter test rows) → Rises k (cond b (row ∷ filter test rows) (filter test rows))
    by_test true (rises, above) = (
      increasing_cons row.number (map number_of (filter test rows)) rises (All-weaker (λ n. suc k < n) (λ n. row.number < n) (λ n less. omega (arith, number)) (map number_of (filter test rows)) above),
      All-cons (λ n. k < n) row.number (map number_of (filter test rows)) (omega (arith, number)) (All-weaker (λ n. suc k < n) (λ n. k < n) (λ n less. omega arith) (map number_of (filter test rows)) above),
    )
    by_test false (rises, above) = (rises, All-weaker (λ n. suc k < n) (λ n. k < n) (λ n less. omega arith) (map number_of (filter test rows)) above)

pub both : (a b : Bool) → (a && b) ≡ true → (a ≡ true) × (b ≡ true)
both true b is = (refl, is)
both false b is = absurd (false≢true is)

pub is_low : (a b : ℕ) → nat_le a b ≡ true → a ≤ b
is_low a b is = grind (arith, nat_tests)

module _ (p : Meaning) (plan : Plan) (history : List Entry) where
  -- the row of a round that has begun
  pub record IsRowOf (row : RoundRow) : Type 0 where
    pub before : ℕ
    pub begun : before < rounds_begun history
    pub opening : ℕ
    pub begins : BeginsAt history (suc before) opening
    pub is : row ≡ round_row p plan (suc before) (after p plan (take opening history))

  module _ (legal : Legal p plan history) where
    pub each_row : All IsRowOf (round_rows p plan history)
    each_row k d inside =
        let begun : k < rounds_begun history = omega (arith, rows_counted p plan history) in
        let told = round_told p plan history legal k begun in
        record {
          before = k;
          begun = begun;
          opening = told.opening;
          begins = told.begins;
          is = get_or_from_slice_get (round_rows p plan history) k (round_row p plan (suc k) (after p plan (take told.opening history))) d told.row;
        }

    -- the sums of the rows are small
    pub few_rows : length history ≤ MAX_ENTRIES → length (round_rows p plan history) ≤ MAX_ENTRIES
    few_rows few = omega (arith, rows_counted p plan history, count_by-le-length is_round history)

    pub small_sum : IsWithinLimits plan → length history ≤ MAX_ENTRIES → sum_by (λ (row : RoundRow). row.idle) (round_rows p plan history) < 2 ^ 32
    small_sum limits few =
        let rows = round_rows p plan history in
        let cores = limits.few_cores in
        let each : All (λ (row : RoundRow). row.idle ≤ MAX_CORES) rows =
        All-weaker IsRowOf (λ (row : RoundRow). row.idle ≤ MAX_CORES)
        (λ row told. let idle = few_idle plan (after p plan (take told.opening history)) p (suc told.before) in let same : row.idle ≡ (round_row p plan (suc told.before) (after p plan (take told.opening history))).idle = ap (λ (x : RoundRow). x.idle) told.is in omega arith)
        rows each_row in
        omega (arith, sum_by-le (λ (row : RoundRow). row.idle) MAX_CORES rows each, few_rows few)

  module _ (whole : Whole p plan history) where
    -- a bad row among those of some rounds is that of a bad round
    abbrev IsBadAmong : ℕ → ℕ → ℕ → Type 0
    IsBadAmong first last number = (first ≤ number) × (number ≤ last) × IsBad p plan history number

    -- a bad row is that of a bad round
    bad_round : (row : RoundRow) → IsRowOf row → is_bad row ≡ true → IsBad p plan history row.number
    unfolding round_row
    bad_round row told bad =
        let begun = told.begun in
        let number : row.number ≡ suc told.before = ap number_of told.is in
        subst (IsBad p plan history) (sym number) (record {
          position = told.opening;
          begins = told.begins;
          complete = attempts p plan history whole (suc told.before) told.opening told.begins (omega arith) (omega arith);
          beside = bad_is_beside plan (after p plan (take told.opening history)) p (suc told.before) (sym (ap is_bad told.is) ∙ bad);
        })

    -- and the row of a bad round is bad
    round_bad : (row : RoundRow) → IsRowOf row → IsBad p plan history row.number → is_bad row ≡ true
    unfolding round_row
    round_bad row told bad =
        let number : row.number ≡ suc told.before = ap number_of told.is in
        let same = begins_once p plan history whole.legal (suc told.before) bad.position told.opening (subst (λ n. BeginsAt history n bad.position) number bad.begins) told.begins in
        ap is_bad told.is
        ∙ beside_is_bad plan (after p plan (take told.opening history)) p (suc told.before) (subst (λ k. Beside plan (after p plan (take k history))) same bad.beside)

    pub bad_exactly : (row : RoundRow) → Contains (round_rows p plan history) row → IsTrue (is_bad row) ↔ IsBad p plan history row.number
    bad_exactly row among = let told = All-contains IsRowOf (round_rows p plan history) row (each_row whole.legal) among in (bad_round row told, round_bad row told)

    bad_row : (first last : ℕ) (row : RoundRow) → IsRowOf row → is_bad_within first last row ≡ true → IsBadAmong first last row.number
    bad_row first last row told passes =
        let tests = both (is_bad row) (nat_le first row.number && nat_le row.number last) passes in
        let ends = both (nat_le first row.number) (nat_le row.number last) tests.1 in
        (is_low first row.number ends.0, is_low row.number last ends.1, bad_round row told tests.0)

    bad_rows : (first last : ℕ) → All (IsBadAmong first last) (map number_of (filter (is_bad_within first last) (round_rows p plan history)))
    bad_rows first last =
        let test = is_bad_within first last in
        let rows = round_rows p plan history in
        let kept = filter test rows in
        All-map (IsBadAmong first last) number_of kept
        (All-weaker (Contains kept) (λ row. IsBadAmong first last row.number)
        (λ row among. bad_row first last row (All-contains IsRowOf kept row (All-filter test IsRowOf rows (each_row whole.legal)) among) (filtered_pass test rows row among)) kept (All-contains_itself kept))

    pub paid_row : Fits p plan → MeetsObligations p → (row : StillRow) → IsStillRow p plan history row → 2 * row.bad ≤ row.spread
    paid_row fits meets row is =
        let test = is_bad_within row.first row.last in
        let rows = round_rows p plan history in
        let numbered = rows_numbered p plan history whole.legal in
        let rise = numbers_rise test 0 rows (λ j d inside. let here = numbered j d inside in omega arith) in
        let paid = (still_rounds p plan history fits meets whole.legal).bad_rounds_paid row.first row.last is.opening (map number_of (filter test rows)) is.longest.still is.begins rise.0 (bad_rows row.first row.last) in
        let bad = is.bad in let spread = is.spread in
        omega (arith, length-map (filter test rows) number_of, length-filter test rows)
