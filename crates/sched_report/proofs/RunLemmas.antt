-- The runs among the rounds so far, with a round more.
use Rattle.std.proofs.Common.{◌≡◌, ℕ, zero, suc, ◌+◌, ◌<◌, ◌≤◌, ◌⊎◌, inl, inr, Bool, true, false, List, [], ◌∷◌, ◌++◌, Option, None, Some, All, MatchOption, length, get_or, option_to_list, refl, sym, ap, subst, ◌∙◌, arith, eq-or-lt_of_le, append-nil}
use Rattle.std.specs.Prelude.{Contains, slice_get}
use Rattle.std.specs.List.Sorted.{IsStrictlyIncreasing}
use Rattle.std.specs.Option.{option_or}
use Rattle.std.proofs.lemmas.Bool.{cases_lt, false≢true}
use Rattle.std.proofs.lemmas.List.{get_or_append_left, get_or_past, get_or_push, length_push, map-append}
use Rattle.std.proofs.lemmas.List.Elements.{All-map, All-push, All-weaker, Contains-append_left, Contains-push, Contains-push_cases}
use Rattle.std.proofs.lemmas.Option.{get_or_from_slice_get, slice_get_within}
use Rattle.sched_report.specs.Rests.{first_rest, rest_told}
use Rattle.sched_report.specs.RoundRows.{bad_within}
use Rattle.sched_report.specs.Code.Runs.{AreNumbered, AreRuns, AreRunsSoFar, IsCovered, IsOpen, IsRun, firsts, grown_row, is_flagged}
use Rattle.sched_report.specs.declared.rows.RoundRow.{RoundRow}
use Rattle.sched_report.specs.declared.rows.StillRow.{StillRow}
use Rattle.sched_report.proofs.RunCounts.{none_within, one_more_bad}
use Rattle.sched_report.proofs.RunRests.{no_rest_within, one_more_rest}

-- a number more at the end
increasing_push : (xs : List ℕ) (y : ℕ) → IsStrictlyIncreasing xs → All (λ x. x < y) xs → IsStrictlyIncreasing (xs ++ y ∷ [])
increasing_push xs y rises below k inside = by_place (eq-or-lt_of_le before)
  where
    before : k + 1 ≤ length xs
    before = omega (arith, length_push xs y)

    by_place : (k + 1 ≡ length xs) ⊎ (k + 1 < length xs) → get_or (xs ++ y ∷ []) k 0 < get_or (xs ++ y ∷ []) (k + 1) 0
    by_place (inl last) = omega (arith, get_or_append_left xs (y ∷ []) 0 k (omega arith), get_or_push xs y 0 (k + 1) (sym last), below k 0 (omega arith))
    by_place (inr inner) = omega (arith, get_or_append_left xs (y ∷ []) 0 k (omega arith), get_or_append_left xs (y ∷ []) 0 (k + 1) inner, rises k inner)

-- behind the last round none is flagged
pub past_flags : (flags : List Bool) (r : ℕ) → length flags < r → is_flagged flags r ≡ false
past_flags flags zero past = refl
past_flags flags (suc k) past = get_or_past flags k false (omega arith)

module _ (flags : List Bool) (rounds : List RoundRow) where
  closed : (at : ℕ) (row : StillRow) → IsOpen flags rounds at row → is_flagged flags (suc at) ≡ false → IsRun flags rounds row
  closed at row is ends = record { run = is.run; ends = ap (λ n. is_flagged flags (suc n)) is.last_is ∙ ends }

  -- a round that isn't still closes the open run
  pub step_closed : (at : ℕ) (done new : List StillRow) (current : Option StillRow) → AreRunsSoFar flags rounds at done current → new ≡ done ++ option_to_list current
      → is_flagged flags (suc at) ≡ false → AreRunsSoFar flags rounds (suc at) new None
  step_closed at done new current so_far is ends = record {
    each = subst (All (IsRun flags rounds)) (sym is) (each_of current so_far.last);
    early = subst (All (λ (row : StillRow). row.first ≤ suc at)) (sym is) (early_of current so_far.last);
    few = few_of current is;
    last = ends;
    all = λ r before flagged. subst (λ rows. IsCovered rows r) (sym is ∙ sym (append-nil new)) (covers r flagged (eq-or-lt_of_le before));
    ordered = subst (λ rows. IsStrictlyIncreasing (firsts rows)) (sym is ∙ sym (append-nil new)) so_far.ordered;
  }
    where
      each_of : (o : Option StillRow) → MatchOption o (is_flagged flags at ≡ false) (IsOpen flags rounds at) → All (IsRun flags rounds) (done ++ option_to_list o)
      each_of None none = subst (All (IsRun flags rounds)) (sym (append-nil done)) so_far.each
      each_of (Some row) open_one = All-push (IsRun flags rounds) done row so_far.each (closed at row open_one ends)

      early_done : All (λ (row : StillRow). row.first ≤ suc at) done
      early_done = All-weaker (λ (row : StillRow). row.first ≤ at) (λ (row : StillRow). row.first ≤ suc at) (λ row early. omega arith) done so_far.early

      early_of : (o : Option StillRow) → MatchOption o (is_flagged flags at ≡ false) (IsOpen flags rounds at) → All (λ (row : StillRow). row.first ≤ suc at) (done ++ option_to_list o)
      early_of None none = subst (All (λ (row : StillRow). row.first ≤ suc at)) (sym (append-nil done)) early_done
      early_of (Some row) open_one = All-push (λ (row : StillRow). row.first ≤ suc at) done row early_done (let order = open_one.run.ordered in let last = open_one.last_is in omega arith)

      few_of : (o : Option StillRow) → new ≡ done ++ option_to_list o → length new ≤ suc at
      few_of None same = let few = so_far.few in omega (arith, ap length same, ap length (append-nil done))
      few_of (Some row) same = let few = so_far.few in omega (arith, ap length same, length_push done row)

      covers : (r : ℕ) → is_flagged flags r ≡ true → (r ≡ suc at) ⊎ (r < suc at) → IsCovered (done ++ option_to_list current) r
      covers r flagged (inl same) = absurd (false≢true (sym ends ∙ (ap (is_flagged flags) (sym same) ∙ flagged)))
      covers r flagged (inr less) = so_far.all r (omega arith) flagged

  module _ (at : ℕ) (y : RoundRow) (numbered : AreNumbered rounds) (there : slice_get rounds at ≡ Some y) (still : is_flagged flags (suc at) ≡ true) where
    number : y.number ≡ suc at
    number = ap (λ (row : RoundRow). row.number) (sym (get_or_from_slice_get rounds at y y there)) ∙ numbered at y (slice_get_within rounds at y there)

    -- a run begins
    begun : is_flagged flags at ≡ false → IsOpen flags rounds (suc at) (grown_row None y)
    begun not = record {
      run = record {
        before = at;
        first_is = number;
        starts = not;
        ordered = omega arith;
        all = λ r low high. let same : suc at ≡ r = omega (arith, number) in subst (λ n. is_flagged flags n ≡ true) same still;
        spread = λ d. ap (λ (row : RoundRow). row.spread) (sym (get_or_from_slice_get rounds at y d there));
        bad =
            let more = one_more_bad at (suc at) rounds y numbered there (omega arith) in
            let none = none_within (suc at) at rounds (omega arith) in
            let all : bad_within rounds y.number y.number ≡ bad_within rounds (suc at) (suc at) = ap (λ n. bad_within rounds n n) number in
            omega arith;
        rest =
            let more = one_more_rest at (suc at) rounds y numbered there (omega arith) in
            let none = no_rest_within (suc at) at rounds (omega arith) in
            sym (ap (λ n. first_rest rounds n n) number ∙ (more ∙ ap (λ o. option_or o (rest_told y)) none));
      };
      last_is = number;
    }

    -- a run goes on
    gone_on : (run : StillRow) → IsOpen flags rounds at run → IsOpen flags rounds (suc at) (grown_row (Some run) y)
    gone_on run is = record {
      run = record {
        before = is.run.before;
        first_is = is.run.first_is;
        starts = is.run.starts;
        ordered = let order = is.run.ordered in let last = is.last_is in omega (arith, number);
        all = λ r low high. by_place r low (eq-or-lt_of_le high);
        spread = is.run.spread;
        bad =
            let order = is.run.ordered in
            let last = is.last_is in
            let so_far = is.run.bad ∙ ap (bad_within rounds run.first) is.last_is in
            let more = one_more_bad at run.first rounds y numbered there (omega arith) in
            let all : bad_within rounds run.first y.number ≡ bad_within rounds run.first (suc at) = ap (bad_within rounds run.first) number in
            omega arith;
        rest =
            let order = is.run.ordered in
            let last = is.last_is in
            let more = one_more_rest at run.first rounds y numbered there (omega arith) in
            ap (λ o. option_or o (rest_told y)) (is.run.rest ∙ ap (first_rest rounds run.first) is.last_is)
            ∙ (sym more ∙ ap (first_rest rounds run.first) (sym number));
      };
      last_is = number;
    }
      where
        by_place : (r : ℕ) → run.first ≤ r → (r ≡ y.number) ⊎ (r < y.number) → is_flagged flags r ≡ true
        by_place r low (inl same) = ap (is_flagged flags) (same ∙ number) ∙ still
        by_place r low (inr less) = is.run.all r low (let last = is.last_is in omega (arith, number))

    -- a still round goes to the open run
    pub step_open : (done : List StillRow) (current : Option StillRow) → AreRunsSoFar flags rounds at done current → AreRunsSoFar flags rounds (suc at) done (Some (grown_row current y))
    step_open done None so_far = record {
      each = so_far.each;
      early = All-weaker (λ (row : StillRow). row.first ≤ at) (λ (row : StillRow). row.first ≤ suc at) (λ row early. omega arith) done so_far.early;
      few = let few = so_far.few in omega arith;
      last = begun so_far.last;
      all = λ r before flagged. covers r flagged (eq-or-lt_of_le before);
      ordered = subst IsStrictlyIncreasing (sym (map-append (λ (row : StillRow). row.first) done (grown_row None y ∷ [])))
          (increasing_push (firsts done) y.number (subst (λ rows. IsStrictlyIncreasing (firsts rows)) (append-nil done) so_far.ordered)
          (All-map (λ n. n < y.number) (λ (row : StillRow). row.first) done (All-weaker (λ (row : StillRow). row.first ≤ at) (λ (row : StillRow). row.first < y.number) (λ row early. omega (arith, number)) done so_far.early)));
    }
      where
        covers : (r : ℕ) → is_flagged flags r ≡ true → (r ≡ suc at) ⊎ (r < suc at) → IsCovered (done ++ grown_row None y ∷ []) r
        covers r flagged (inl same) = record { row = grown_row None y; among = Contains-push done (grown_row None y); from = omega (arith, number); to = omega (arith, number) }
        covers r flagged (inr less) =
            let found = so_far.all r (omega arith) flagged in
            record {
              row = found.row;
              among = Contains-append_left done (grown_row None y ∷ []) found.row (subst (λ rows. Contains rows found.row) (append-nil done) found.among);
              from = found.from;
              to = found.to;
            }
    step_open done (Some run) so_far = record {
      each = so_far.each;
      early = All-weaker (λ (row : StillRow). row.first ≤ at) (λ (row : StillRow). row.first ≤ suc at) (λ row early. omega arith) done so_far.early;
      few = let few = so_far.few in omega arith;
      last = gone_on run so_far.last;
      all = λ r before flagged. covers r flagged (eq-or-lt_of_le before);
      ordered = subst IsStrictlyIncreasing (map-append (λ (row : StillRow). row.first) done (run ∷ []) ∙ sym (map-append (λ (row : StillRow). row.first) done (grown_row (Some run) y ∷ []))) so_far.ordered;
    }
      where
        first_low : run.first ≤ suc at
        first_low = let order = so_far.last.run.ordered in let last = so_far.last.last_is in omega arith

        by_row : (r : ℕ) (row : StillRow) → row.first ≤ r → r ≤ row.last → Contains done row ⊎ (run ≡ row) → IsCovered (done ++ grown_row (Some run) y ∷ []) r
        by_row r row low high (inl among) = record { row = row; among = Contains-append_left done (grown_row (Some run) y ∷ []) row among; from = low; to = high }
        by_row r row low high (inr same) =
            let first : run.first ≡ row.first = ap (λ (x : StillRow). x.first) same in
            let last : run.last ≡ row.last = ap (λ (x : StillRow). x.last) same in
            let ends = so_far.last.last_is in
            record { row = grown_row (Some run) y; among = Contains-push done (grown_row (Some run) y); from = omega arith; to = omega (arith, number) }

        covers : (r : ℕ) → is_flagged flags r ≡ true → (r ≡ suc at) ⊎ (r < suc at) → IsCovered (done ++ grown_row (Some run) y ∷ []) r
        covers r flagged (inl same) = record { row = grown_row (Some run) y; among = Contains-push done (grown_row (Some run) y); from = omega (arith, first_low); to = omega (arith, number) }
        covers r flagged (inr less) =
            let found = so_far.all r (omega arith) flagged in
            by_row r found.row found.from found.to (Contains-push_cases done run found.row found.among)

  -- at the end the open run is closed
  pub runs_at_end : (at : ℕ) (done rows : List StillRow) (current : Option StillRow) → AreRunsSoFar flags rounds at done current → rows ≡ done ++ option_to_list current
      → length flags ≤ at → AreRuns flags rounds rows
  runs_at_end at done rows current so_far is ended =
      let last = step_closed at done rows current so_far is (past_flags flags (suc at) (omega arith)) in
      record {
        each = last.each;
        all = λ r flagged. subst (λ xs. IsCovered xs r) (append-nil rows) (last.all r (inside r flagged (cases_lt (length flags) r)) flagged);
        ordered = subst (λ xs. IsStrictlyIncreasing (firsts xs)) (append-nil rows) last.ordered;
      }
    where
      inside : (r : ℕ) → is_flagged flags r ≡ true → (length flags < r) ⊎ (r ≤ length flags) → r ≤ suc at
      inside r flagged (inl past) = absurd (false≢true (sym (past_flags flags r past) ∙ flagged))
      inside r flagged (inr within) = omega arith
