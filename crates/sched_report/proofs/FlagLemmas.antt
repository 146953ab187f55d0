-- The flags of the rounds with an entry more.
use Rattle.std.proofs.Common.{◌≡◌, ◌≢◌, ℕ, zero, suc, ◌+◌, ◌-◌, ◌<◌, ◌≤◌, ◌⊎◌, inl, inr, Bool, true, false, cond, List, [], ◌∷◌, ◌++◌, length, get_or, set, refl, sym, ap, ◌∙◌, arith, add-zero}
use Rattle.std.specs.Prelude.{IsFalse}
use Rattle.std.proofs.lemmas.Bool.{cases_eq, cases_lt, false≢true}
use Rattle.std.proofs.lemmas.List.{get_or_append_left, get_or_push, get_or-set_other, get_or-set_same, length-set, length_push, take-append-le, take_all}
use mathlib.Core.Option.{some, some-injective, some-ne-none}
use lib.ListN.{get_elem?}
use Rattle.policy_tree.specs.Meaning.{Meaning}
use Rattle.round_model.specs.declared.entry.Entry.{Entry}
use Rattle.round_model.specs.declared.entry.Entry.TheVariants as entry
use Rattle.round_model.specs.declared.plan.Plan.{Plan}
use Rattle.round_model.specs.After.{round_of}
use Rattle.round_model.specs.Kinds.{is_round}
use Rattle.round_model.specs.Legal.{Legal, LegalNext, rounds_begun}
use Rattle.round_model.specs.Rounds.{IsStill, disturbs, round_at}
use Rattle.round_model.proofs.Histories.{open_round}
use Rattle.round_model.proofs.Longer.{begun_more}
use Rattle.round_laws.proofs.RoundNumbers.{round_rises}
use Rattle.sched_report.specs.Code.Runs.{flags_with, is_flagged}
use Rattle.sched_report.specs.Code.Walks.{AreFlags}

-- an entry of a longer list stands in the front, or is the last
data Place {A : Type 0} (h : List A) (e : A) (k : ℕ) (x : A) : Type 0 where
  in_front : k < length h → get_elem? h k ≡ some x → Place h e k x
  is_last : k ≡ length h → e ≡ x → Place h e k x

place_of : {A : Type 0} (h : List A) (e : A) (k : ℕ) (x : A) → get_elem? (h ++ e ∷ []) k ≡ some x → Place h e k x
place_of [] e zero x is = is_last refl (some-injective e x is)
place_of [] e (suc k) x is = absurd (some-ne-none x (sym is))
place_of (y ∷ ys) e zero x is = in_front (omega arith) is
place_of (y ∷ ys) e (suc k) x is = one_on (place_of ys e k x is)
  where
    one_on : Place ys e k x → Place (y ∷ ys) e (suc k) x
    one_on (in_front inside there) = in_front (omega arith) there
    one_on (is_last same end) = is_last (omega arith) end

in_longer : {A : Type 0} (h : List A) (e : A) (k : ℕ) (x : A) → get_elem? h k ≡ some x → (get_elem? (h ++ e ∷ []) k ≡ some x) × (k < length h)
in_longer [] e k x is = absurd (some-ne-none x (sym is))
in_longer (y ∷ ys) e zero x is = (is, omega arith)
in_longer (y ∷ ys) e (suc k) x is = let rest = in_longer ys e k x is in (rest.0, let inside = rest.1 in omega arith)

last_of : {A : Type 0} (h : List A) (e : A) → get_elem? (h ++ e ∷ []) (length h) ≡ some e
last_of [] e = refl
last_of (y ∷ ys) e = last_of ys e

quiet_round : (e : Entry) → is_round e ≡ true → disturbs e ≡ false
quiet_round (entry.Round number) is = refl
quiet_round (entry.Enter thread by at reads) is = absurd (false≢true is)
quiet_round (entry.Wake thread by at reads) is = absurd (false≢true is)
quiet_round (entry.Work by what) is = absurd (false≢true is)
quiet_round (entry.Steal by from threads reads) is = refl
quiet_round (entry.Fail by from reads) is = refl
quiet_round (entry.Pass by reads) is = refl

-- what disturbs stands in a round
pub disturbed_in_round : (p : Meaning) (plan : Plan) (h : List Entry) (e : Entry) → LegalNext p plan h e → disturbs e ≡ true → 0 < rounds_begun h
unfolding LegalNext
disturbed_in_round p plan h (entry.Round number) legal is = absurd (false≢true is)
disturbed_in_round p plan h (entry.Enter thread by at reads) legal is = legal.begun
disturbed_in_round p plan h (entry.Wake thread by at reads) legal is = legal.begun
disturbed_in_round p plan h (entry.Work by what) legal is = legal.begun
disturbed_in_round p plan h (entry.Steal by from threads reads) legal is = absurd (false≢true is)
disturbed_in_round p plan h (entry.Fail by from reads) legal is = absurd (false≢true is)
disturbed_in_round p plan h (entry.Pass by reads) legal is = absurd (false≢true is)

module _ (p : Meaning) (plan : Plan) (h : List Entry) (e : Entry) (legal : Legal p plan h) (next : LegalNext p plan h e) where
  longer : List Entry
  longer = h ++ e ∷ []

  same_round_at : (k : ℕ) → k ≤ length h → round_at (h ++ e ∷ []) k ≡ round_at h k
  same_round_at k within = ap round_of (take-append-le k h (e ∷ []) within)

  open_at_end : round_at h (length h) ≡ rounds_begun h
  open_at_end = ap round_of (take_all (length h) h (omega arith)) ∙ open_round p plan h legal

  last_round_at : round_at (h ++ e ∷ []) (length h) ≡ rounds_begun h
  last_round_at = same_round_at (length h) (omega arith) ∙ open_at_end

  -- a round that hasn't begun is still
  not_begun : (r : ℕ) → rounds_begun h < r → IsStill h r r
  not_begun r late k x there low high =
      let inside = (in_longer h e k x there).1 in
      let rises = round_rises p plan h legal k (length h) (omega arith) in
      absurd (omega (arith, open_at_end))

  -- a round that is still stays so, where the entry doesn't disturb it
  stays_still : (r : ℕ) → (r ≡ rounds_begun h → disturbs e ≡ false) → IsStill h r r → IsStill (h ++ e ∷ []) r r
  stays_still r calm still k x there low high = by_place (place_of h e k x there)
    where
      by_place : Place h e k x → IsFalse (disturbs x)
      by_place (in_front inside here) = let same = same_round_at k (omega arith) in still k x here (omega arith) (omega arith)
      by_place (is_last at_end same) =
          let opened : round_at (h ++ e ∷ []) k ≡ rounds_begun h = ap (round_at (h ++ e ∷ [])) at_end ∙ last_round_at in
          ap disturbs (sym same) ∙ calm (omega arith)

  -- and was so before
  was_still : (r : ℕ) → IsStill (h ++ e ∷ []) r r → IsStill h r r
  was_still r still k x there low high =
      let found = in_longer h e k x there in
      let inside = found.1 in
      let same = same_round_at k (omega arith) in
      still k x found.0 (omega arith) (omega arith)

  module _ (flags : List Bool) (are : AreFlags h flags) where
    begun_by : (b : Bool) → is_round e ≡ b → rounds_begun (h ++ e ∷ []) ≡ rounds_begun h + cond b 1 0
    begun_by b is = begun_more h e ∙ ap (λ x. rounds_begun h + cond x 1 0) is

    -- a round begins
    round_flags : is_round e ≡ true → AreFlags (h ++ e ∷ []) (flags ++ true ∷ [])
    round_flags is = record {
      count = omega (arith, length_push flags true, are.count, begun_by true is);
      still = λ r flagged. stays_still r (λ same. quiet_round e is) (still_one r flagged);
      stirred = λ r positive within flagged still. stirred_one r positive within flagged (was_still r still);
    }
      where
        still_one : (r : ℕ) → is_flagged (flags ++ true ∷ []) r ≡ true → IsStill h r r
        still_one zero flagged = absurd (false≢true flagged)
        still_one (suc k) flagged = by_place (cases_lt k (length flags))
          where
            by_place : (k < length flags) ⊎ (length flags ≤ k) → IsStill h (suc k) (suc k)
            by_place (inl inside) = are.still (suc k) (sym (get_or_append_left flags (true ∷ []) false k inside) ∙ flagged)
            by_place (inr past) = not_begun (suc k) (let count = are.count in omega arith)

        stirred_one : (r : ℕ) → 1 ≤ r → r ≤ length (flags ++ true ∷ []) → is_flagged (flags ++ true ∷ []) r ≡ false → ¬ IsStill h r r
        stirred_one zero positive within flagged still = absurd (omega arith)
        stirred_one (suc k) positive within flagged still = by_place (cases_lt k (length flags))
          where
            by_place : (k < length flags) ⊎ (length flags ≤ k) → ⊥
            by_place (inl inside) = are.stirred (suc k) (omega arith) (omega arith) (sym (get_or_append_left flags (true ∷ []) false k inside) ∙ flagged) still
            by_place (inr past) = false≢true (sym flagged ∙ get_or_push flags true false k (omega (arith, length_push flags true)))

    -- the entry does nothing to the flags
    calm_flags : is_round e ≡ false → disturbs e ≡ false → AreFlags (h ++ e ∷ []) flags
    calm_flags is calm = record {
      count = are.count ∙ sym (begun_by false is ∙ add-zero (rounds_begun h));
      still = λ r flagged. stays_still r (λ same. calm) (are.still r flagged);
      stirred = λ r positive within flagged still. are.stirred r positive within flagged (was_still r still);
    }

    -- the open round is disturbed
    disturbed_flags : is_round e ≡ false → disturbs e ≡ true → AreFlags (h ++ e ∷ []) (set flags (length flags - 1) false)
    disturbed_flags is stirs = record {
      count = length-set flags (length flags - 1) false ∙ (are.count ∙ sym (begun_by false is ∙ add-zero (rounds_begun h)));
      still = still_one;
      stirred = stirred_one;
    }
      where
        some_begun : 0 < rounds_begun h
        some_begun = disturbed_in_round p plan h e next stirs

        still_one : (r : ℕ) → is_flagged (set flags (length flags - 1) false) r ≡ true → IsStill (h ++ e ∷ []) r r
        still_one zero flagged = absurd (false≢true flagged)
        still_one (suc k) flagged = by_place (cases_eq k (length flags - 1))
          where
            by_place : (k ≡ length flags - 1) ⊎ (k ≢ length flags - 1) → IsStill (h ++ e ∷ []) (suc k) (suc k)
            by_place (inl same) =
                absurd (false≢true (sym (ap (λ n. get_or (set flags (length flags - 1) false) n false) same ∙ get_or-set_same flags (length flags - 1) false false (let count = are.count in omega (arith, some_begun))) ∙ flagged))
            by_place (inr other) =
                stays_still (suc k) (λ same. absurd (other (let count = are.count in omega arith)))
                (are.still (suc k) (sym (get_or-set_other flags (length flags - 1) k false false other) ∙ flagged))

        stirred_one : (r : ℕ) → 1 ≤ r → r ≤ length (set flags (length flags - 1) false) → is_flagged (set flags (length flags - 1) false) r ≡ false → ¬ IsStill (h ++ e ∷ []) r r
        stirred_one zero positive within flagged still = absurd (omega arith)
        stirred_one (suc k) positive within flagged still = by_place (cases_eq k (length flags - 1))
          where
            by_place : (k ≡ length flags - 1) ⊎ (k ≢ length flags - 1) → ⊥
            by_place (inl same) =
                let count = are.count in
                false≢true (sym (still (length h) e (last_of h e) (omega (arith, last_round_at, some_begun)) (omega (arith, last_round_at, some_begun))) ∙ stirs)
            by_place (inr other) =
                are.stirred (suc k) (omega arith) (omega (arith, length-set flags (length flags - 1) false)) (sym (get_or-set_other flags (length flags - 1) k false false other) ∙ flagged) (was_still (suc k) still)

    pub flags_more : AreFlags (h ++ e ∷ []) (flags_with e flags)
    flags_more = by_kind (is_round e) refl (disturbs e) refl
      where
        by_kind : (b : Bool) → is_round e ≡ b → (d : Bool) → disturbs e ≡ d → AreFlags (h ++ e ∷ []) (cond b (flags ++ true ∷ []) (cond d (set flags (length flags - 1) false) flags))
        by_kind true round d stirs = round_flags round
        by_kind false round true stirs = disturbed_flags round stirs
        by_kind false round false stirs = calm_flags round stirs
