-- What is told of the entries so far, with an entry more.
use Rattle.std.proofs.Common.{◌≡◌, ℕ, zero, suc, ◌+◌, ◌<◌, ◌≤◌, ◌⊎◌, inl, inr, List, [], ◌∷◌, ◌++◌, Option, None, Some, All, length, get_or, map, option_to_list, take, refl, sym, ap, ap₂, subst, ◌∙◌, arith, append-nil}
use Rattle.std.specs.Prelude.{filter_map, slice_index}
use Rattle.std.specs.List.{cons_option, enumerate_from}
use Rattle.std.proofs.lemmas.Bool.{cases_lt}
use Rattle.std.proofs.lemmas.List.{length-map, length-take, length-take-le, map-append, take_all}
use Rattle.std.proofs.lemmas.List.Elements.{All-push, filter_map-append}
use Rattle.std.proofs.lemmas.List.Sums.{count_by-le-length}
use mathlib.Core.Option.{some, some-injective, some-ne-none}
use lib.ListN.{get_elem?}
use Rattle.policy_tree.specs.Meaning.{Meaning}
use Rattle.round_model.specs.declared.entry.Entry.{Entry}
use Rattle.round_model.specs.declared.entry.Entry.TheVariants as entry
use Rattle.round_model.specs.declared.plan.Plan.{Plan}
use Rattle.round_model.specs.declared.state.ModelCore.{ModelCore}
use Rattle.round_model.specs.After.{after}
use Rattle.round_model.specs.Cores.{Cores, listed}
use Rattle.round_model.specs.Explains.{Explains}
use Rattle.round_model.specs.Fits.{Fits}
use Rattle.round_model.specs.Kinds.{is_round}
use Rattle.round_model.specs.Legal.{Legal}
use Rattle.round_model.specs.Reads.{IsReadOf, round_start}
use Rattle.round_judge.specs.declared.past.Past.{Past}
use Rattle.round_judge.specs.Past.{IsKeptPosition, IsPastOf, StandsFor}
use Rattle.round_laws.proofs.Choosing.{legal_fail}
use Rattle.round_laws.proofs.Positions.{entry_more, seen_before}
use Rattle.sched_report.specs.CauseRows.{IsCause}
use Rattle.sched_report.specs.Code.Causes.{AddsFail, AreKept, Causes, Changes, IsCauseIn, IsFailTold, IsFirstCause, MayBeTold}
use Rattle.sched_report.specs.Code.Openings.{row_told}
use Rattle.sched_report.specs.FailRows.{fail_at}
use Rattle.sched_report.specs.RoundRows.{row_at, row_of}
use Rattle.sched_report.specs.Code.Runs.{flags_with}
use Rattle.sched_report.specs.Code.Walks.{AreFlags, IsTally, IsTallySoFar}
use Rattle.sched_report.specs.declared.rows.CauseRow.{CauseRow}
use Rattle.sched_report.specs.declared.rows.RoundRow.{RoundRow}
use Rattle.sched_report.specs.declared.walk.Tally.{Tally}
use Rattle.sched_report.proofs.FlagLemmas.{flags_more}
use Rattle.sched_report.proofs.OpeningRows.{row_is}

-- the items of a list with their places, and one more
pub enumerate_more : {X : Type 0} (n m : ℕ) (xs : List X) (x : X) → m ≡ n + length xs → enumerate_from n (xs ++ x ∷ []) ≡ enumerate_from n xs ++ (m, x) ∷ []
enumerate_more n m [] x is = let same : n ≡ m = omega arith in ap (λ k. (k, x) ∷ []) same
enumerate_more n m (y ∷ ys) x is = ap (λ rest. (n, y) ∷ rest) (enumerate_more (n + 1) m ys x (omega arith))

-- what is picked of them
module _ {X Y : Type 0} (f : ℕ × X → Option Y) where
  one_picked : (o : Option Y) → cons_option o [] ≡ option_to_list o
  one_picked None = refl
  one_picked (Some y) = refl

  pub picked_more : (xs : List X) (at : ℕ) (x : X) → get_elem? xs at ≡ some x → at < length xs
      → filter_map f (enumerate_from 0 (take (suc at) xs)) ≡ filter_map f (enumerate_from 0 (take at xs)) ++ option_to_list (f (at, x))
  picked_more xs at x is inside =
      ap (λ front. filter_map f (enumerate_from 0 front)) (entry_more xs at x is)
      ∙ (ap (filter_map f) (enumerate_more 0 at (take at xs) x (let long = length-take-le at xs (omega arith) in omega arith))
      ∙ (filter_map-append f (enumerate_from 0 (take at xs)) ((at, x) ∷ [])
      ∙ ap (λ last. filter_map f (enumerate_from 0 (take at xs)) ++ last) (one_picked (f (at, x)))))

  few_picked : (n : ℕ) (xs : List X) → length (filter_map f (enumerate_from n xs)) ≤ length xs
  few_picked n [] = omega arith
  few_picked n (x ∷ xs) = with_option (f (n, x)) (few_picked (n + 1) xs)
    where
      with_option : (o : Option Y) → length (filter_map f (enumerate_from (n + 1) xs)) ≤ length xs → length (cons_option o (filter_map f (enumerate_from (n + 1) xs))) ≤ length (x ∷ xs)
      with_option None rest = omega arith
      with_option (Some y) rest = omega arith

-- the item in a place
pub elem_at : {X : Type 0} (xs : List X) (k : ℕ) (d : X) → k < length xs → get_elem? xs k ≡ some (get_or xs k d)
elem_at [] k d inside = absurd (omega arith)
elem_at (x ∷ xs) zero d inside = refl
elem_at (x ∷ xs) (suc k) d inside = elem_at xs k d (omega arith)

-- the row of a state as a list is that of the state
told_is : (p : Meaning) (plan : Plan) (m : Cores) (state : List ModelCore) (e : Entry) → state ≡ listed plan.cores m → row_told p plan state e ≡ row_of p plan m e
told_is p plan m state (entry.Round number) is = ap (λ cores. row_told p plan cores (entry.Round number)) is ∙ ap Some (row_is p plan m number)
told_is p plan m state (entry.Enter thread by at reads) is = refl
told_is p plan m state (entry.Wake thread by at reads) is = refl
told_is p plan m state (entry.Work by what) is = refl
told_is p plan m state (entry.Steal by from threads reads) is = refl
told_is p plan m state (entry.Fail by from reads) is = refl
told_is p plan m state (entry.Pass by reads) is = refl

module _ (p : Meaning) (plan : Plan) (history : List Entry) (at : ℕ) (inside : at < length history) where
  long : length (take at history) ≡ at
  long = length-take-le at history (omega arith)

  -- a change before the position is one of the whole history
  change_on : (c read k : ℕ) → k < at → Changes p plan (take at history) c read k → Changes p plan history c read k
  change_on c read k before is = (is.0, λ same. is.1 (seen_before p plan history at c k (omega arith) ∙ (same ∙ sym (seen_before p plan history at c (suc k) (omega arith)))))

  change_back : (c read k : ℕ) → k < at → Changes p plan history c read k → Changes p plan (take at history) c read k
  change_back c read k before is = (is.0, λ same. is.1 (sym (seen_before p plan history at c k (omega arith)) ∙ (same ∙ seen_before p plan history at c (suc k) (omega arith))))

  module _ (by from : ℕ) (reads : List ℕ) (fails : get_elem? history at ≡ some (entry.Fail by from reads)) where
    -- what is a cause explains the Fail, and what explains it is a cause
    explaining : (k : ℕ) → k < at → Causes p plan (take at history) by from reads k → Explains p plan history at k
    explaining k before (inl is) = let on = change_on by (slice_index reads by) k before is in record {
      thief = by;
      victim = from;
      reads = reads;
      fails = fails;
      core = by;
      thief_or_victim = inl refl;
      after_read = on.0;
      before_fail = before;
      changes = on.1;
    }
    explaining k before (inr is) = let on = change_on from (slice_index reads from) k before is in record {
      thief = by;
      victim = from;
      reads = reads;
      fails = fails;
      core = from;
      thief_or_victim = inr refl;
      after_read = on.0;
      before_fail = before;
      changes = on.1;
    }

    same_thief : (thief victim : ℕ) (others : List ℕ) → entry.Fail thief victim others ≡ entry.Fail by from reads → thief ≡ by
    same_thief thief victim others same = cc

    same_victim : (thief victim : ℕ) (others : List ℕ) → entry.Fail thief victim others ≡ entry.Fail by from reads → victim ≡ from
    same_victim thief victim others same = cc

    same_reads : (thief victim : ℕ) (others : List ℕ) → entry.Fail thief victim others ≡ entry.Fail by from reads → others ≡ reads
    same_reads thief victim others same = cc

    causing : (k : ℕ) → Explains p plan history at k → Causes p plan (take at history) by from reads k
    causing k is = by_core is.thief_or_victim
      where
        same : entry.Fail is.thief is.victim is.reads ≡ entry.Fail by from reads
        same = some-injective (entry.Fail is.thief is.victim is.reads) (entry.Fail by from reads) (sym is.fails ∙ fails)

        moved : (c : ℕ) → is.core ≡ c → Changes p plan (take at history) c (slice_index reads c) k
        moved c core = change_back c (slice_index reads c) k is.before_fail
            (subst (λ x. Changes p plan history x (slice_index reads x) k) core
            (subst (λ xs. Changes p plan history is.core (slice_index xs is.core) k) (same_reads is.thief is.victim is.reads same) (is.after_read, is.changes)))

        by_core : (is.core ≡ is.thief) ⊎ (is.core ≡ is.victim) → Causes p plan (take at history) by from reads k
        by_core (inl thief) = inl (moved by (thief ∙ same_thief is.thief is.victim is.reads same))
        by_core (inr victim) = inr (moved from (victim ∙ same_victim is.thief is.victim is.reads same))

    first_of : (k : ℕ) → IsFirstCause p plan (take at history) by from reads k → (cause : ℕ) → Explains p plan history at cause → (cause < k) ⊎ (k ≤ cause) → k ≤ cause
    first_of k is cause explains (inl early) = absurd (is.first cause early (causing cause explains))
    first_of k is cause explains (inr late) = late

    -- what was told to be the cause is that of the Fail
    cause_is : (o : Option ℕ) → IsCauseIn p plan (take at history) by from reads o → IsCause p plan history at o
    cause_is None none = λ cause explains. none cause (let before = explains.before_fail in omega (arith, long)) (causing cause explains)
    cause_is (Some k) is = record {
      explains = explaining k (let within = is.inside in omega (arith, long)) is.causes;
      first = λ cause explains. first_of k is cause explains (cases_lt cause k);
    }

    -- the row that was told is the row of the Fail
    cause_row_is : (past : Past) (row : CauseRow) → StandsFor p plan past (take at history) → by < plan.cores → from < plan.cores → IsFailTold past by from reads row
        → (row.at ≡ at) × IsCause p plan history row.at row.by
    cause_row_is past row stands thief victim told =
        let here : row.at ≡ at = told.at ∙ (stands.entries ∙ long) in
        (here, subst (λ k. IsCause p plan history k row.by) (sym here) (cause_is row.by (told.by_is p plan (take at history) stands thief victim)))

  module _ (fits : Fits p plan) (legal : Legal p plan history) (past : Past) (belongs : IsPastOf p plan past) (stands : StandsFor p plan past (take at history)) where
    kept_read : (read : ℕ) → IsReadOf (round_start (take at history)) (length (take at history)) read → IsKeptPosition past read
    kept_read read is =
        let low = is.in_round in let high = is.before_entry in let entries = stands.entries in let window = stands.rows.window in
        record { not_after = omega arith; not_before = omega arith }

    -- the row of a Fail may be told
    fail_kept : (by from : ℕ) (reads : List ℕ) → get_elem? history at ≡ some (entry.Fail by from reads) → AreKept past by from reads
    fail_kept by from reads fails =
        let failed = legal_fail p plan (take at history) by from reads (legal at (entry.Fail by from reads) fails) in
        let fit = failed.read in
        let few = belongs.limits.few_cores in
        let thief = failed.thief_there in
        let victim = failed.candidate.there in
        record {
          window = belongs.window;
          thief_there = omega arith;
          victim_there = omega arith;
          thief_read = omega (arith, fit.one_each);
          victim_read = omega (arith, fit.one_each);
          thief_kept = kept_read (slice_index reads by) (fit.each by 0 (omega (arith, fit.one_each)));
          victim_kept = kept_read (slice_index reads from) (fit.each from 0 (omega (arith, fit.one_each)));
        }

    pub may_be_told : (e : Entry) → get_elem? history at ≡ some e → MayBeTold past e
    may_be_told (entry.Round number) is = tt
    may_be_told (entry.Enter thread by to reads) is = tt
    may_be_told (entry.Wake thread by to reads) is = tt
    may_be_told (entry.Work by what) is = tt
    may_be_told (entry.Steal by from threads reads) is = tt
    may_be_told (entry.Fail by from reads) is = fail_kept by from reads is
    may_be_told (entry.Pass by reads) is = tt

    -- the rows of failed steals with those of the entry
    abbrev at_of : CauseRow → ℕ
    at_of row = row.at

    abbrev HasItsCause : CauseRow → Type 0
    HasItsCause row = IsCause p plan history row.at row.by

    record FailsMore (e : Entry) (old new : List CauseRow) : Type 0 where
      positions : map at_of new ≡ map at_of old ++ option_to_list (fail_at (at, e))
      causes : All HasItsCause old → All HasItsCause new

    same_fails : (e : Entry) (old new : List CauseRow) → fail_at (at, e) ≡ None → new ≡ old → FailsMore e old new
    same_fails e old new none same = record {
      positions = ap (map at_of) same ∙ (sym (append-nil (map at_of old)) ∙ ap (λ o. map at_of old ++ option_to_list o) (sym none));
      causes = λ each. subst (All HasItsCause) (sym same) each;
    }

    fails_more : (e : Entry) (old new : List CauseRow) → get_elem? history at ≡ some e → AddsFail past e old new → FailsMore e old new
    fails_more (entry.Round number) old new is same = same_fails (entry.Round number) old new refl same
    fails_more (entry.Enter thread by to reads) old new is same = same_fails (entry.Enter thread by to reads) old new refl same
    fails_more (entry.Wake thread by to reads) old new is same = same_fails (entry.Wake thread by to reads) old new refl same
    fails_more (entry.Work by what) old new is same = same_fails (entry.Work by what) old new refl same
    fails_more (entry.Steal by from threads reads) old new is same = same_fails (entry.Steal by from threads reads) old new refl same
    fails_more (entry.Pass by reads) old new is same = same_fails (entry.Pass by reads) old new refl same
    fails_more (entry.Fail by from reads) old new is (row, same, told) =
        let failed = legal_fail p plan (take at history) by from reads (legal at (entry.Fail by from reads) is) in
        let found = cause_row_is by from reads is past row stands failed.thief_there failed.candidate.there told in
        record {
          positions = ap (map at_of) same ∙ (map-append at_of old (row ∷ []) ∙ ap (λ n. map at_of old ++ n ∷ []) found.0);
          causes = λ each. subst (All HasItsCause) (sym same) (All-push HasItsCause old row each found.1);
        }

    -- what is told with the entry
    pub tally_more : (e : Entry) (old new : Tally) (state : List ModelCore) → get_elem? history at ≡ some e → IsTallySoFar p plan history at old
        → state ≡ listed plan.cores (after p plan (take at history)) → new.rounds ≡ old.rounds ++ option_to_list (row_told p plan state e) → new.still ≡ flags_with e old.still
        → AddsFail past e old.causes new.causes → IsTallySoFar p plan history (suc at) new
    tally_more e old new state is so_far cores rounds still fails =
        let more = fails_more e old.causes new.causes is fails in
        record {
          rounds = rounds
              ∙ (ap₂ (λ (front : List RoundRow) (o : Option RoundRow). front ++ option_to_list o) so_far.rounds (told_is p plan (after p plan (take at history)) state e cores)
              ∙ sym (picked_more (row_at p plan history) history at e is inside));
          still = subst (λ h. AreFlags h new.still) (sym (entry_more history at e is))
              (subst (AreFlags (take at history ++ e ∷ [])) (sym still) (flags_more p plan (take at history) e stands.legal (legal at e is) old.still so_far.still));
          positions = more.positions ∙ (ap (λ front. front ++ option_to_list (fail_at (at, e))) so_far.positions ∙ sym (picked_more fail_at history at e is inside));
          causes = more.causes so_far.causes;
        }

-- of no entry nothing is told
pub tally_none : (p : Meaning) (plan : Plan) (history : List Entry) (tally : Tally) → tally ≡ record { rounds = []; still = []; causes = [] } → IsTallySoFar p plan history 0 tally
tally_none p plan history tally is = record {
  rounds = ap (λ (t : Tally). t.rounds) is;
  still = subst (AreFlags []) (sym (ap (λ (t : Tally). t.still) is)) (record { count = refl; still = λ r flagged k e there. absurd (some-ne-none e (sym there)); stirred = λ r positive within. absurd (omega arith) });
  positions = ap (λ (t : Tally). map (λ (row : CauseRow). row.at) t.causes) is;
  causes = subst (All (λ (row : CauseRow). IsCause p plan history row.at row.by)) (sym (ap (λ (t : Tally). t.causes) is)) (λ k d inside. absurd (omega arith));
}

-- at the end all is told
pub tally_whole : (p : Meaning) (plan : Plan) (history : List Entry) (at : ℕ) (tally : Tally) → length history ≤ at → IsTallySoFar p plan history at tally → IsTally p plan history tally
tally_whole p plan history at tally ended so_far =
    let all = take_all at history ended in
    record {
      rounds = so_far.rounds ∙ ap (λ h. filter_map (row_at p plan history) (enumerate_from 0 h)) all;
      still = subst (λ h. AreFlags h tally.still) all so_far.still;
      causes = record { positions = so_far.positions ∙ ap (λ h. filter_map fail_at (enumerate_from 0 h)) all; each = so_far.causes };
    }

-- there are no more rows, flags or Fails than entries
module _ (p : Meaning) (plan : Plan) (history : List Entry) (at : ℕ) (tally : Tally) (so_far : IsTallySoFar p plan history at tally) where
  front_within : length (take at history) ≤ at
  front_within = omega (arith, length-take at history)

  pub few_rounds : length tally.rounds ≤ at
  few_rounds = omega (arith, ap length so_far.rounds, few_picked (row_at p plan history) 0 (take at history), front_within)

  pub few_flags : length tally.still ≤ at
  few_flags = let count = so_far.still.count in omega (arith, count_by-le-length is_round (take at history), front_within)

  pub few_fails : length tally.causes ≤ at
  few_fails =
      omega (arith, ap length so_far.positions, few_picked fail_at 0 (take at history), length-map tally.causes (λ (row : CauseRow). row.at), front_within)
