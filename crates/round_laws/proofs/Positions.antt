-- A history along its positions: the entry at each, and the state and the open round behind it.
use Rattle.std.proofs.Common.{◌≡◌, ℕ, zero, suc, ◌+◌, ◌≤◌, true, false, cond, List, [], ◌∷◌, ◌++◌, take, fold, refl, ap, ◌∙◌, sym, arith}
use Rattle.std.proofs.lemmas.List.{take-take}
use mathlib.Core.Option.{some, some-injective, some-ne-none}
use lib.ListN.{get_elem?}
use Rattle.policy_tree.specs.Meaning.{Meaning}
use Rattle.round_model.specs.declared.entry.Entry.{Entry}
use Rattle.round_model.specs.declared.entry.Entry.TheVariants as entry
use Rattle.round_model.specs.declared.plan.Plan.{Plan}
use Rattle.round_model.specs.After.{after, moved, round_after, round_of}
use Rattle.round_model.specs.Cores.{seen_of}
use Rattle.round_model.specs.Kinds.{is_round}
use Rattle.round_model.specs.Reads.{round_start, start_from, value_read}
use Rattle.round_model.specs.Rounds.{round_at}
use Rattle.round_model.proofs.Grows.{one_more}

-- the entries up to a position, and the entry there
pub entry_more : {A : Type 0} (h : List A) (k : ℕ) (e : A) → get_elem? h k ≡ some e → take (suc k) h ≡ take k h ++ e ∷ []
entry_more [] k e is = absurd (some-ne-none e (sym is))
entry_more (x ∷ xs) zero e is = ap (λ y. y ∷ []) (some-injective x e is)
entry_more (x ∷ xs) (suc k) e is = ap (λ rest. x ∷ rest) (entry_more xs k e is)

-- before an entry stands another at each position
pub entry_before : {A : Type 0} (h : List A) (k : ℕ) (e : A) → get_elem? h k ≡ some e → (j : ℕ) → j ≤ k → (x : A) × (get_elem? h j ≡ some x)
entry_before [] k e is j before = absurd (some-ne-none e (sym is))
entry_before (x ∷ xs) k e is zero before = (x, refl)
entry_before (x ∷ xs) zero e is (suc j) before = absurd (omega arith)
entry_before (x ∷ xs) (suc k) e is (suc j) before = entry_before xs k e is j (omega arith)

-- the state behind an entry is what the entry makes of the state before it
pub state_behind : (p : Meaning) (plan : Plan) (h : List Entry) (k : ℕ) (e : Entry) → get_elem? h k ≡ some e
    → after p plan (take (suc k) h) ≡ moved p plan (round_of (take k h)) e (after p plan (take k h))
state_behind p plan h k e is = ap (after p plan) (entry_more h k e is) ∙ one_more p plan (take k h) e

-- and so it is with what is seen of a core
pub seen_behind : (p : Meaning) (plan : Plan) (h : List Entry) (k c : ℕ) (e : Entry) → get_elem? h k ≡ some e
    → value_read p plan h c (suc k) ≡ seen_of (moved p plan (round_of (take k h)) e (after p plan (take k h)) c)
seen_behind p plan h k c e is = ap (λ m. seen_of (m c)) (state_behind p plan h k e is)

-- what is seen at a position is the same in each longer history
pub seen_before : (p : Meaning) (plan : Plan) (h : List Entry) (k c j : ℕ) → j ≤ k → value_read p plan (take k h) c j ≡ value_read p plan h c j
seen_before p plan h k c j before = ap (λ g. seen_of (after p plan g c)) (take-take j k h before)

-- the start of a round is no earlier than those before it
start_from-ge : (k start : ℕ) (es : List Entry) → start ≤ k → start ≤ start_from k start es
start_from-ge k start [] below = omega arith
start_from-ge k start (e ∷ es) below =
    elim (is_round e) as (λ b. start ≤ start_from (suc k) (cond b (suc k) start) es) [
      | true ↦ let later = start_from-ge (suc k) (suc k) es (omega arith) in omega arith
      | false ↦ start_from-ge (suc k) start es (omega arith)
    ]

round_kept : (e : Entry) (round : ℕ) → is_round e ≡ false → round_after round e ≡ round
round_kept (entry.Round number) round not = absurd (cc)
round_kept (entry.Enter thread by at reads) round not = refl
round_kept (entry.Wake thread by at reads) round not = refl
round_kept (entry.Work by what) round not = refl
round_kept (entry.Steal by from threads reads) round not = refl
round_kept (entry.Fail by from reads) round not = refl
round_kept (entry.Pass by reads) round not = refl

-- entries among which no round starts leave the round open
none_starts : (k start round : ℕ) (es : List Entry) → start_from k start es ≤ k → fold round_after round es ≡ round
none_starts k start round [] early = refl
none_starts k start round (e ∷ es) early =
    elim (is_round e) as (λ b. is_round e ≡ b → start_from (suc k) (cond b (suc k) start) es ≤ k → fold round_after (round_after round e) es ≡ round) [
      | true ↦ λ is within. let late = start_from-ge (suc k) (suc k) es (omega arith) in absurd (omega arith)
      | false ↦ λ is within. none_starts (suc k) start (round_after round e) es (omega arith) ∙ round_kept e round is
    ] refl early

all_in_round : (k start round : ℕ) (es : List Entry) (j : ℕ) → start_from k start es ≤ k + j → fold round_after round (take j es) ≡ fold round_after round es
all_in_round k start round [] zero early = refl
all_in_round k start round [] (suc j) early = refl
all_in_round k start round (e ∷ es) zero early = sym (none_starts k start round (e ∷ es) (omega arith))
all_in_round k start round (e ∷ es) (suc j) early = all_in_round (suc k) (cond (is_round e) (suc k) start) (round_after round e) es j (omega arith)

-- the positions from the start of the open round on are of that round
pub same_round : (history : List Entry) (j k : ℕ) → round_start (take k history) ≤ j → j ≤ k → round_at history j ≡ round_at history k
same_round history j k started before =
    ap round_of (sym (take-take j k history before)) ∙ all_in_round 0 0 0 (take k history) j (omega arith)
