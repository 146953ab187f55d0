-- Along a still stretch: an entry is a steal, or changes no core's thread count or load. So the spread never rises, and where
-- a core is idle beside an overloaded one, one was so at each earlier position.
use Rattle.std.proofs.Common.{◌≡◌, ℕ, zero, suc, ◌<◌, ◌≤◌, ◌⊎◌, inl, inr, Bool, true, false, IsTrue, IsFalse, List, take, refl, sym, ap, ◌∙◌, subst, arith, eq-or-lt_of_le}
use mathlib.Core.Option.{some, some-injective}
use lib.ListN.{get_elem?}
use Rattle.policy_tree.specs.Meaning.{Meaning}
use Rattle.round_model.specs.declared.entry.Entry.{Entry}
use Rattle.round_model.specs.declared.entry.Entry.TheVariants as entry
use Rattle.round_model.specs.declared.plan.Plan.{Plan}
use Rattle.round_model.specs.After.{after}
use Rattle.round_model.specs.Cores.{seen_of}
use Rattle.round_model.specs.Kinds.{is_steal}
use Rattle.round_model.specs.Fits.{Fits}
use Rattle.round_model.specs.Legal.{Legal}
use Rattle.round_model.specs.Reads.{value_read}
use Rattle.round_model.specs.Rounds.{BeginsAt, IsStill, disturbs, round_at}
use Rattle.round_model.specs.StillRounds.{BesideAt, spread_at}
use Rattle.round_laws.specs.Rest.{MeetsMoveObligations}
use Rattle.round_laws.proofs.KeptLoads.{keeps_loads}
use Rattle.round_laws.proofs.StealsNarrow.{steals_narrow_two}
use Rattle.round_laws.proofs.Apart.{beside_same, spread_same}
use Rattle.round_laws.proofs.RoundNumbers.{EntryAt, entry_at, opened, past_end, round_rises, which_entry}
use Rattle.round_laws.proofs.StealsKeepBalance.{beside_before_steal}

-- what stands at a position of a still stretch
pub data Step (p : Meaning) (plan : Plan) (h : List Entry) (k : ℕ) : Type 0 where
  keeps_all : ((c : ℕ) → c < plan.cores → value_read p plan h c (suc k) ≡ value_read p plan h c k) → Step p plan h k
  steals : (e : Entry) → get_elem? h k ≡ some e → IsTrue (is_steal e) → Step p plan h k

module _ (p : Meaning) (plan : Plan) (h : List Entry) (fits : Fits p plan) (meets : MeetsMoveObligations p) (legal : Legal p plan h) (first last opening : ℕ) (still : IsStill h first last) (begins : BeginsAt h first opening) where
  -- from the first Round on, up to the Round behind the stretch, no entry disturbs
  pub undisturbed : (k : ℕ) (e : Entry) → get_elem? h k ≡ some e → opening ≤ k → round_at h k ≤ last → IsFalse (disturbs e)
  undisturbed k e is behind within = by_order (eq-or-lt_of_le behind)
    where
      by_order : (opening ≡ k) ⊎ (opening < k) → IsFalse (disturbs e)
      by_order (inl same) =
          let round : entry.Round first ≡ e = some-injective (entry.Round first) e (sym begins ∙ (ap (get_elem? h) same ∙ is)) in
          subst (λ x. IsFalse (disturbs x)) round refl
      by_order (inr later) = let opens = opened h first opening begins in let rises = round_rises p plan h legal (suc opening) k later in still k e is (omega arith) within

  pub step : (k : ℕ) → opening ≤ k → round_at h k ≤ last → Step p plan h k
  step k behind within = by_entry (which_entry h k)
    where
      by_kind : (e : Entry) → get_elem? h k ≡ some e → (b : Bool) → is_steal e ≡ b → Step p plan h k
      by_kind e is true kind = steals e is kind
      by_kind e is false kind = keeps_all (λ c there. keeps_loads p plan h fits meets legal k c e is kind (undisturbed k e is behind within) there)

      by_entry : EntryAt h k → Step p plan h k
      by_entry (entry_at e is) = by_kind e is (is_steal e) refl
      by_entry (past_end same) = keeps_all (λ c there. ap (λ (g : List Entry). seen_of (after p plan g c)) same)

  narrower : (k : ℕ) → Step p plan h k → spread_at p plan h (suc k) ≤ spread_at p plan h k
  narrower k (keeps_all same) = let equal : spread_at p plan h (suc k) ≡ spread_at p plan h k = spread_same plan (after p plan (take (suc k) h)) (after p plan (take k h)) same in omega arith
  narrower k (steals e is steal) = let less = steals_narrow_two p plan h fits meets legal k e is steal in omega arith

  -- the spread never rises
  pub never_wider : (k j : ℕ) → opening ≤ k → k ≤ j → round_at h j ≤ last → spread_at p plan h j ≤ spread_at p plan h k
  never_wider k zero behind before within = let first : k ≡ 0 = omega arith in let same : spread_at p plan h k ≡ spread_at p plan h 0 = ap (spread_at p plan h) first in omega arith
  never_wider k (suc j) behind before within = by_order (never_wider k j behind) (eq-or-lt_of_le before)
    where
      by_order : (k ≤ j → round_at h j ≤ last → spread_at p plan h j ≤ spread_at p plan h k) → (k ≡ suc j) ⊎ (k < suc j) → spread_at p plan h (suc j) ≤ spread_at p plan h k
      by_order rest (inl same) = let equal : spread_at p plan h k ≡ spread_at p plan h (suc j) = ap (spread_at p plan h) same in omega arith
      by_order rest (inr less) =
          let rises = round_rises p plan h legal j (suc j) (omega arith) in
          let so_far = rest (omega arith) (omega arith) in
          let one = narrower j (step j (omega arith) (omega arith)) in
          omega arith

  -- what no entry brings about is at each earlier position where it is at a later one
  pub earlier : (P : ℕ → Type 0) → ((k : ℕ) → Step p plan h k → P (suc k) → P k) → (k j : ℕ) → opening ≤ k → k ≤ j → round_at h j ≤ last → P j → P k
  earlier P back k zero behind before within there = let first : 0 ≡ k = omega arith in subst P first there
  earlier P back k (suc j) behind before within there = by_order (earlier P back k j behind) (eq-or-lt_of_le before)
    where
      by_order : (k ≤ j → round_at h j ≤ last → P j → P k) → (k ≡ suc j) ⊎ (k < suc j) → P k
      by_order rest (inl same) = subst P (sym same) there
      by_order rest (inr less) =
          let rises = round_rises p plan h legal j (suc j) (omega arith) in
          rest (omega arith) (omega arith) (back j (step j (omega arith) (omega arith)) there)

  beside_before : (k : ℕ) → Step p plan h k → BesideAt p plan h (suc k) → BesideAt p plan h k
  beside_before k (keeps_all same) beside = beside_same plan (after p plan (take (suc k) h)) (after p plan (take k h)) same beside
  beside_before k (steals e is steal) beside = beside_before_steal p plan h fits meets legal k e is steal beside

  -- so it is with an idle core beside an overloaded one
  pub beside_earlier : (k j : ℕ) → opening ≤ k → k ≤ j → round_at h j ≤ last → BesideAt p plan h j → BesideAt p plan h k
  beside_earlier = earlier (BesideAt p plan h) beside_before
