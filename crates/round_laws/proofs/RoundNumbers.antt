-- The number of the open round along the positions of a legal history: it rises, by one at each Round.
use Rattle.std.proofs.Common.{◌≡◌, ℕ, zero, suc, ◌<◌, ◌≤◌, false, ◌⊎◌, inl, inr, eq-or-lt_of_le, List, [], ◌∷◌, length, take, refl, sym, ap, ◌∙◌, subst, arith}
use Rattle.std.proofs.lemmas.Bool.{cases_lt}
use mathlib.Core.Option.{some, some-ne-none}
use lib.ListN.{get_elem?}
use Rattle.policy_tree.specs.Meaning.{Meaning}
use Rattle.round_model.specs.declared.entry.Entry.{Entry}
use Rattle.round_model.specs.declared.entry.Entry.TheVariants as entry
use Rattle.round_model.specs.declared.plan.Plan.{Plan}
use Rattle.round_model.specs.After.{round_after, round_of}
use Rattle.round_model.specs.Kinds.{is_round}
use Rattle.round_model.specs.Legal.{Legal, LegalNext, rounds_begun}
use Rattle.round_model.specs.Reads.{round_start}
use Rattle.round_model.specs.Rounds.{BeginsAt, round_at}
use Rattle.round_model.proofs.Grows.{legal_prefix}
use Rattle.round_model.proofs.Histories.{open_round}
use Rattle.round_model.proofs.Longer.{round_of_more, start_stays}
use Rattle.round_laws.proofs.Positions.{entry_more}

-- an entry stands within the history
pub entry_inside : {A : Type 0} (h : List A) (k : ℕ) (e : A) → get_elem? h k ≡ some e → k < length h
entry_inside [] k e is = absurd (some-ne-none e (sym is))
entry_inside (x ∷ xs) zero e is = omega arith
entry_inside (x ∷ xs) (suc k) e is = let rest = entry_inside xs k e is in omega arith

-- at each position within the history stands an entry, and none past it
pub data EntryAt {A : Type 0} (h : List A) (k : ℕ) : Type 0 where
  entry_at : (e : A) → get_elem? h k ≡ some e → EntryAt h k
  past_end : take (suc k) h ≡ take k h → EntryAt h k

pub which_entry : {A : Type 0} (h : List A) (k : ℕ) → EntryAt h k
which_entry [] zero = past_end refl
which_entry [] (suc k) = past_end refl
which_entry (x ∷ xs) zero = entry_at x refl
which_entry (x ∷ xs) (suc k) = later (which_entry xs k)
  where
    later : EntryAt xs k → EntryAt (x ∷ xs) (suc k)
    later (entry_at e is) = entry_at e is
    later (past_end same) = past_end (ap (λ rest. x ∷ rest) same)

module _ (h : List Entry) where
  -- the open round behind an entry
  pub round_behind : (k : ℕ) (e : Entry) → get_elem? h k ≡ some e → round_at h (suc k) ≡ round_after (round_at h k) e
  round_behind k e is = ap round_of (entry_more h k e is) ∙ round_of_more (take k h) e

  -- behind a Round its own is open
  pub opened : (n k : ℕ) → BeginsAt h n k → round_at h (suc k) ≡ n
  opened n k begins = round_behind k (entry.Round n) begins

-- how the open round goes on from a position
pub data Onward (h : List Entry) (k : ℕ) : Type 0 where
  next_round : BeginsAt h (suc (round_at h k)) k → Onward h k
  same_round : round_at h (suc k) ≡ round_at h k → round_start (take (suc k) h) ≡ round_start (take k h) → Onward h k

module _ (p : Meaning) (plan : Plan) (h : List Entry) (legal : Legal p plan h) where
  -- the open round at a position is as many as have begun before it
  pub counted_at : (k : ℕ) → round_at h k ≡ rounds_begun (take k h)
  counted_at k = open_round p plan (take k h) (legal_prefix p plan h k legal)

  -- before a Round the one before it is open
  pub opens_next : (n k : ℕ) → BeginsAt h n k → n ≡ suc (round_at h k)
  unfolding LegalNext
  opens_next n k begins = let next = legal k (entry.Round n) begins in omega (arith, next.next, counted_at k)

  pub onward : (k : ℕ) → Onward h k
  onward k = by_entry (which_entry h k)
    where
      stays : (e : Entry) → is_round e ≡ false → round_at h (suc k) ≡ round_at h k → get_elem? h k ≡ some e → Onward h k
      stays e not same is = same_round same (ap round_start (entry_more h k e is) ∙ start_stays (take k h) e not)

      by_kind : (e : Entry) → get_elem? h k ≡ some e → Onward h k
      by_kind (entry.Round n) is = next_round (subst (λ (m : ℕ). get_elem? h k ≡ some (entry.Round m)) (opens_next n k is) is)
      by_kind (entry.Enter thread by at reads) is = stays (entry.Enter thread by at reads) refl (round_behind h k (entry.Enter thread by at reads) is) is
      by_kind (entry.Wake thread by at reads) is = stays (entry.Wake thread by at reads) refl (round_behind h k (entry.Wake thread by at reads) is) is
      by_kind (entry.Work by what) is = stays (entry.Work by what) refl (round_behind h k (entry.Work by what) is) is
      by_kind (entry.Steal by from threads reads) is = stays (entry.Steal by from threads reads) refl (round_behind h k (entry.Steal by from threads reads) is) is
      by_kind (entry.Fail by from reads) is = stays (entry.Fail by from reads) refl (round_behind h k (entry.Fail by from reads) is) is
      by_kind (entry.Pass by reads) is = stays (entry.Pass by reads) refl (round_behind h k (entry.Pass by reads) is) is

      by_entry : EntryAt h k → Onward h k
      by_entry (entry_at e is) = by_kind e is
      by_entry (past_end same) = same_round (ap round_of same) (ap round_start same)

  onward-le : (k : ℕ) → Onward h k → round_at h k ≤ round_at h (suc k)
  onward-le k (next_round begins) = let is = opened h (suc (round_at h k)) k begins in omega arith
  onward-le k (same_round same start) = omega arith

  -- the open round only rises
  pub round_rises : (k j : ℕ) → k ≤ j → round_at h k ≤ round_at h j
  round_rises k zero before = let first : k ≡ 0 = omega arith in let same : round_at h k ≡ round_at h 0 = ap (round_at h) first in omega arith
  round_rises k (suc j) before = by_last (round_rises k j) (eq-or-lt_of_le before)
    where
      by_last : (k ≤ j → round_at h k ≤ round_at h j) → (k ≡ suc j) ⊎ (k < suc j) → round_at h k ≤ round_at h (suc j)
      by_last rest (inl is) = let same : round_at h k ≡ round_at h (suc j) = ap (round_at h) is in omega arith
      by_last rest (inr less) = let so_far = rest (omega arith) in let one = onward-le j (onward j) in omega arith

  -- a later round is open at a later position
  pub behind_round : (k j : ℕ) → round_at h k < round_at h j → k < j
  behind_round k j less = by_order (cases_lt k j)
    where
      by_order : (k < j) ⊎ (j ≤ k) → k < j
      by_order (inl before) = before
      by_order (inr back) = let rises = round_rises j k back in absurd (omega arith)

  -- the Round of no earlier round stands behind that of a later one
  pub begins_in_order : (n m k j : ℕ) → BeginsAt h n k → BeginsAt h m j → n ≤ m → k ≤ j
  begins_in_order n m k j first second before = by_order (cases_lt j k)
    where
      by_order : (j < k) ⊎ (k ≤ j) → k ≤ j
      by_order (inl back) =
          let rises = round_rises (suc j) k back in
          let opens = opened h m j second in
          let next = opens_next n k first in
          absurd (omega arith)
      by_order (inr is) = is

  -- a round begins once
  pub begins_once : (n k j : ℕ) → BeginsAt h n k → BeginsAt h n j → k ≡ j
  begins_once n k j first second = omega (arith, begins_in_order n n k j first second (omega arith), begins_in_order n n j k second first (omega arith))

  -- each round up to the open one has begun
  pub begun_before : (n j : ℕ) → 1 ≤ n → n ≤ round_at h j → (k : ℕ) × (k < j) × BeginsAt h n k
  begun_before n zero positive reached = absurd (omega arith)
  begun_before n (suc j) positive reached = by_order (begun_before n j positive) (cases_lt (round_at h j) n)
    where
      further : (k : ℕ) × (k < j) × BeginsAt h n k → (k : ℕ) × (k < suc j) × BeginsAt h n k
      further (k, before, begins) = (k, omega arith, begins)

      here : round_at h j < n → Onward h j → (k : ℕ) × (k < suc j) × BeginsAt h n k
      here less (next_round begins) =
          let is = opened h (suc (round_at h j)) j begins in
          (j, omega arith, subst (λ m. BeginsAt h m j) (omega arith) begins)
      here less (same_round same start) = absurd (omega arith)

      by_order : (n ≤ round_at h j → (k : ℕ) × (k < j) × BeginsAt h n k) → (round_at h j < n) ⊎ (n ≤ round_at h j) → (k : ℕ) × (k < suc j) × BeginsAt h n k
      by_order earlier (inl less) = here less (onward j)
      by_order earlier (inr before) = further (earlier before)
