-- How many threads are stolen in each round, and in a stretch of rounds.
use Rattle.std.proofs.Common.{◌≡◌, ◌≢◌, ℕ, zero, suc, ◌+◌, ◌-◌, ◌<◌, ◌≤◌, ◌⊎◌, inl, inr, ◌&&◌, Bool, true, false, cond, List, [], ◌∷◌, ◌++◌, length, get_or, set, take, refl, sym, ap, ap₂, ◌∙◌, arith, add-zero}
use Rattle.std.specs.Prelude.{count_by, nat_le, sum_by}
use Rattle.std.specs.List.{enumerate_from}
use Rattle.std.proofs.lemmas.Bool.{cases_eq, false≢true}
use Rattle.std.proofs.lemmas.Bool.Decides.{nat_tests}
use Rattle.std.proofs.lemmas.List.{get_or-set_other, get_or-set_same, length-set, length-take, length-take-le, length_push, take_all}
use Rattle.std.proofs.lemmas.List.FromFn.{length-enumerate_from}
use Rattle.std.proofs.lemmas.List.Sums.{count_by-le-length, sum_by-cons, sum_by_push}
use mathlib.Core.Option.{some}
use lib.ListN.{get_elem?}
use Rattle.policy_tree.specs.Meaning.{Meaning}
use Rattle.round_model.specs.declared.entry.Entry.{Entry}
use Rattle.round_model.specs.declared.entry.Entry.TheVariants as entry
use Rattle.round_model.specs.declared.plan.Plan.{Plan}
use Rattle.round_model.specs.Kinds.{is_round, is_steal}
use Rattle.round_model.specs.Legal.{Legal, LegalNext, rounds_begun}
use Rattle.round_model.specs.Rounds.{round_at}
use Rattle.round_model.proofs.Longer.{begun_more}
use Rattle.round_laws.proofs.Positions.{entry_more}
use Rattle.round_laws.proofs.RoundNumbers.{counted_at}
use Rattle.sched_report.specs.StretchRows.{is_steal_within, steals_within}
use Rattle.sched_report.specs.Code.Steals.{AreSteals, AreStealsSoFar, counts_with, steals_so_far}
use Rattle.sched_report.proofs.WalkLemmas.{enumerate_more}

abbrev one_if : Bool → ℕ
one_if b = cond b 1 0

-- a sum that splits item by item splits
split_sum : {X : Type 0} (f g h : X → ℕ) → ((x : X) → f x ≡ g x + h x) → (xs : List X) → sum_by f xs ≡ sum_by g xs + sum_by h xs
split_sum f g h splits [] = refl
split_sum f g h splits (x ∷ xs) =
    omega (arith, splits x, split_sum f g h splits xs, sum_by-cons f x xs, sum_by-cons g x xs, sum_by-cons h x xs)

no_sum : {X : Type 0} (f : X → ℕ) → ((x : X) → f x ≡ 0) → (xs : List X) → sum_by f xs ≡ 0
no_sum f none [] = refl
no_sum f none (x ∷ xs) = omega (arith, none x, no_sum f none xs, sum_by-cons f x xs)

within_more : (s : Bool) (first last r : ℕ) → first ≤ suc last
    → one_if (s && (nat_le first r && nat_le r (suc last))) ≡ one_if (s && (nat_le first r && nat_le r last)) + one_if (s && (nat_le (suc last) r && nat_le r (suc last)))
within_more false first last r ordered = refl
within_more true first last r ordered = grind (arith, nat_tests)

within_none : (s : Bool) (last r : ℕ) → one_if (s && (nat_le (suc last) r && nat_le r last)) ≡ 0
within_none false last r = refl
within_none true last r = grind (arith, nat_tests)

module _ (history : List Entry) where
  -- the rounds first to last and one more
  steals_more : (first last : ℕ) → first ≤ suc last → steals_within history first (suc last) ≡ steals_within history first last + steals_within history (suc last) (suc last)
  steals_more first last ordered =
      split_sum (λ at. one_if (is_steal_within history first (suc last) at)) (λ at. one_if (is_steal_within history first last at)) (λ at. one_if (is_steal_within history (suc last) (suc last) at))
      (λ at. within_more (is_steal at.1) first last (round_at history at.0) ordered) (enumerate_from 0 history)

  pub steals_none : (last : ℕ) → steals_within history (suc last) last ≡ 0
  steals_none last = no_sum (λ at. one_if (is_steal_within history (suc last) last at)) (λ at. within_none (is_steal at.1) last (round_at history at.0)) (enumerate_from 0 history)

  -- one round more, by its count
  pub steals_next : (counts : List ℕ) → AreSteals history counts → (first before : ℕ) → first ≤ suc before
      → steals_within history first (suc before) ≡ steals_within history first before + get_or counts before 0
  steals_next counts are first before ordered = steals_more first before ordered ∙ ap (λ (n : ℕ). steals_within history first before + n) (sym (are.each before))

  pub few_steals : (first last : ℕ) → steals_within history first last ≤ length history
  few_steals first last = omega (arith, count_by-le-length (is_steal_within history first last) (enumerate_from 0 history), length-enumerate_from 0 history)

  pub few_so_far : (at first last : ℕ) → steals_so_far history at first last ≤ length history
  few_so_far at first last =
      omega (arith, count_by-le-length (is_steal_within history first last) (enumerate_from 0 (take at history)), length-enumerate_from 0 (take at history), length-take at history)

only_then : (k r : ℕ) → r ≡ suc k → one_if (nat_le (suc k) r && nat_le r (suc k)) ≡ 1
only_then k r same = grind (arith, nat_tests)

never_else : (k r : ℕ) → r ≢ suc k → one_if (nat_le (suc k) r && nat_le r (suc k)) ≡ 0
never_else k r other = grind (arith, nat_tests)

-- a count of 0 behind the others changes none
with_none : (counts : List ℕ) (k : ℕ) → get_or (counts ++ 0 ∷ []) k 0 ≡ get_or counts k 0
with_none [] zero = refl
with_none [] (suc k) = refl
with_none (x ∷ xs) zero = refl
with_none (x ∷ xs) (suc k) = with_none xs k

-- what takes a thread stands in a round
pub stolen_in_round : (p : Meaning) (plan : Plan) (h : List Entry) (e : Entry) → LegalNext p plan h e → is_steal e ≡ true → 0 < rounds_begun h
unfolding LegalNext
stolen_in_round p plan h (entry.Round number) legal is = absurd (false≢true is)
stolen_in_round p plan h (entry.Enter thread by at reads) legal is = absurd (false≢true is)
stolen_in_round p plan h (entry.Wake thread by at reads) legal is = absurd (false≢true is)
stolen_in_round p plan h (entry.Work by what) legal is = absurd (false≢true is)
stolen_in_round p plan h (entry.Steal by from threads reads) legal is = legal.begun
stolen_in_round p plan h (entry.Fail by from reads) legal is = absurd (false≢true is)
stolen_in_round p plan h (entry.Pass by reads) legal is = absurd (false≢true is)

no_round : (e : Entry) → is_steal e ≡ true → is_round e ≡ false
no_round (entry.Round number) is = absurd (false≢true is)
no_round (entry.Enter thread by at reads) is = refl
no_round (entry.Wake thread by at reads) is = refl
no_round (entry.Work by what) is = refl
no_round (entry.Steal by from threads reads) is = refl
no_round (entry.Fail by from reads) is = refl
no_round (entry.Pass by reads) is = refl

no_steal : (e : Entry) → is_round e ≡ true → is_steal e ≡ false
no_steal (entry.Round number) is = refl
no_steal (entry.Enter thread by at reads) is = refl
no_steal (entry.Wake thread by at reads) is = refl
no_steal (entry.Work by what) is = refl
no_steal (entry.Steal by from threads reads) is = absurd (false≢true is)
no_steal (entry.Fail by from reads) is = refl
no_steal (entry.Pass by reads) is = refl

module _ (p : Meaning) (plan : Plan) (history : List Entry) (legal : Legal p plan history) (at : ℕ) (e : Entry) (is : get_elem? history at ≡ some e) (inside : at < length history)
    (counts : List ℕ) (are : AreStealsSoFar history at counts) where
  one_more : (first last : ℕ) → steals_so_far history (suc at) first last ≡ steals_so_far history at first last + one_if (is_steal_within history first last (at, e))
  one_more first last =
      let f : ℕ × Entry → ℕ = λ x. one_if (is_steal_within history first last x) in
      ap (λ front. sum_by f (enumerate_from 0 front)) (entry_more history at e is)
      ∙ (ap (sum_by f) (enumerate_more 0 at (take at history) e (let long = length-take-le at history (omega arith) in omega arith))
      ∙ sum_by_push f (enumerate_from 0 (take at history)) (at, e))

  begun_by : (b : Bool) → is_round e ≡ b → rounds_begun (take (suc at) history) ≡ length counts + one_if b
  begun_by b kind = ap rounds_begun (entry_more history at e is) ∙ (begun_more (take at history) e ∙ ap₂ (λ (n : ℕ) (x : Bool). n + one_if x) (sym are.rounds) kind)

  open_is : round_at history at ≡ length counts
  open_is = counted_at p plan history legal at ∙ sym are.rounds

  within_by : (s : Bool) (k : ℕ) → is_steal e ≡ s → one_if (is_steal_within history (suc k) (suc k) (at, e)) ≡ one_if (s && (nat_le (suc k) (length counts) && nat_le (length counts) (suc k)))
  within_by s k kind = ap₂ (λ (x : Bool) (r : ℕ). one_if (x && (nat_le (suc k) r && nat_le r (suc k)))) kind open_is

  unchanged : is_steal e ≡ false → (k : ℕ) → get_or counts k 0 ≡ steals_so_far history (suc at) (suc k) (suc k)
  unchanged none k = are.each k ∙ sym (one_more (suc k) (suc k) ∙ (ap (λ n. steals_so_far history at (suc k) (suc k) + n) (within_by false k none) ∙ add-zero (steals_so_far history at (suc k) (suc k))))

  -- a round begins
  with_round : is_round e ≡ true → AreStealsSoFar history (suc at) (counts ++ 0 ∷ [])
  with_round begins = record {
    rounds = omega (arith, length_push counts 0, begun_by true begins);
    each = λ k. with_none counts k ∙ unchanged (no_steal e begins) k;
  }

  -- the entry neither begins a round nor takes a thread
  with_other : is_round e ≡ false → is_steal e ≡ false → AreStealsSoFar history (suc at) counts
  with_other goes_on none = record { rounds = omega (arith, begun_by false goes_on); each = unchanged none }

  -- a thread is taken in the open round
  with_steal : is_steal e ≡ true → AreStealsSoFar history (suc at) (set counts (length counts - 1) (get_or counts (length counts - 1) 0 + 1))
  with_steal steals = record {
    rounds = omega (arith, length-set counts (length counts - 1) (get_or counts (length counts - 1) 0 + 1), begun_by false (no_round e steals));
    each = λ k. by_place k (cases_eq k (length counts - 1));
  }
    where
      begun : 0 < length counts
      begun = let some_round = stolen_in_round p plan (take at history) e (legal at e is) steals in let rounds = are.rounds in omega arith

      by_place : (k : ℕ) → (k ≡ length counts - 1) ⊎ (k ≢ length counts - 1)
          → get_or (set counts (length counts - 1) (get_or counts (length counts - 1) 0 + 1)) k 0 ≡ steals_so_far history (suc at) (suc k) (suc k)
      by_place k (inl same) =
          let here = ap (λ n. get_or (set counts (length counts - 1) (get_or counts (length counts - 1) 0 + 1)) n 0) same
          ∙ get_or-set_same counts (length counts - 1) (get_or counts (length counts - 1) 0 + 1) 0 (omega (arith, begun)) in
          let before = ap (λ n. get_or counts n 0) (sym same) ∙ are.each k in
          let one = within_by true k steals ∙ only_then k (length counts) (omega (arith, begun)) in
          omega (arith, here, before, one, one_more (suc k) (suc k))
      by_place k (inr other) =
          let there = get_or-set_other counts (length counts - 1) k (get_or counts (length counts - 1) 0 + 1) 0 other in
          let none = within_by true k steals ∙ never_else k (length counts) (λ same. other (omega arith)) in
          omega (arith, there, are.each k, none, one_more (suc k) (suc k))

  pub steals_noted : AreStealsSoFar history (suc at) (counts_with e counts)
  steals_noted = by_kind (is_round e) refl (is_steal e) refl
    where
      by_kind : (b : Bool) → is_round e ≡ b → (s : Bool) → is_steal e ≡ s
          → AreStealsSoFar history (suc at) (cond b (counts ++ 0 ∷ []) (cond s (set counts (length counts - 1) (get_or counts (length counts - 1) 0 + 1)) counts))
      by_kind true begins s steals = with_round begins
      by_kind false goes_on true steals = with_steal steals
      by_kind false goes_on false none = with_other goes_on none

none_there : (k : ℕ) → get_or {A = ℕ} [] k 0 ≡ 0
none_there zero = refl
none_there (suc k) = refl

-- of no entry there is no count, and of all entries those of all rounds
pub steals_at_first : (history : List Entry) → AreStealsSoFar history 0 []
steals_at_first history = record { rounds = refl; each = none_there }

pub steals_at_last : (history : List Entry) (at : ℕ) (counts : List ℕ) → length history ≤ at → AreStealsSoFar history at counts → AreSteals history counts
steals_at_last history at counts ended so_far =
    let all = take_all at history ended in
    record {
      rounds = so_far.rounds ∙ ap rounds_begun all;
      each = λ k. so_far.each k ∙ ap (λ h. count_by (is_steal_within history (suc k) (suc k)) (enumerate_from 0 h)) all;
    }
