-- Where the rounds of a history begin, and that each had room.
use Rattle.std.proofs.Common.{◌≡◌, ℕ, zero, suc, ◌+◌, ◌<◌, ◌≤◌, Bool, true, false, cond, List, [], ◌∷◌, ◌++◌, length, take, refl, sym, ap, ◌∙◌, subst, ⊎_elim, arith}
use mathlib.Core.Option.{some, some-injective, some-ne-none}
use lib.ListN.{get_elem?}
use Rattle.policy_tree.specs.Meaning.{Meaning}
use Rattle.round_model.specs.declared.entry.Entry.{Entry}
use Rattle.round_model.specs.declared.entry.Entry.TheVariants as entry
use Rattle.round_model.specs.declared.plan.Plan.{Plan}
use Rattle.round_model.specs.Kinds.{is_round}
use Rattle.round_model.specs.Legal.{Legal, LegalNext, Whole, is_due}
use Rattle.round_model.specs.Reads.{round_start, start_from}
use Rattle.round_model.proofs.Grows.{at_end}
use Rattle.serial_steps.specs.SerialEnds.{IsFull, RoundFits}
use Rattle.parallel_play.specs.Runs.{HadRoom}

-- the start of a round is no earlier than those before it
start_from-ge : (k start : ℕ) (es : List Entry) → start ≤ k → start ≤ start_from k start es
start_from-ge k start [] low = omega arith
start_from-ge k start (e ∷ es) low =
    elim (is_round e) as (λ b. start ≤ start_from (suc k) (cond b (suc k) start) es) [
      | true ↦ let later = start_from-ge (suc k) (suc k) es (omega arith) in omega arith
      | false ↦ start_from-ge (suc k) start es (omega arith)
    ]

started_low : (b : Bool) (k start : ℕ) → start ≤ k → cond b (suc k) start ≤ suc k
started_low true k start low = omega arith
started_low false k start low = omega arith

-- every round begins before the start of the last one
begins_before : (k start : ℕ) (es : List Entry) (at number : ℕ) → start ≤ k → get_elem? es at ≡ some (entry.Round number) → k + at < start_from k start es
begins_before k start [] at number low there = absurd (some-ne-none (entry.Round number) (sym there))
begins_before k start (e ∷ es) zero number low there =
    let same : e ≡ entry.Round number = some-injective e (entry.Round number) there in
    subst (λ (x : Entry). k + 0 < start_from (suc k) (cond (is_round x) (suc k) start) es) (sym same) (let later = start_from-ge (suc k) (suc k) es (omega arith) in omega arith)
begins_before k start (e ∷ es) (suc at) number low there =
    let rest = begins_before (suc k) (cond (is_round e) (suc k) start) es at number (started_low (is_round e) k start low) there in omega arith

at_front : {A : Type 0} (h : List A) (n k : ℕ) → k < n → get_elem? (take n h) k ≡ get_elem? h k
at_front h zero k low = absurd (omega arith)
at_front [] (suc n) k low = refl
at_front (x ∷ xs) (suc n) zero low = refl
at_front (x ∷ xs) (suc n) (suc k) low = at_front xs n k (omega arith)

-- no round has begun
pub none_had : (plan : Plan) → HadRoom plan []
none_had plan at number there = absurd (some-ne-none (entry.Round number) (sym there))

-- one round more began behind those entries, where it fitted, and is the last
pub one_had : (plan : Plan) (h g : List Entry) (number : ℕ) → h ++ entry.Round number ∷ [] ≡ take (round_start g) g → HadRoom plan h → RoundFits plan (length h) → HadRoom plan g
one_had plan h g number merged before fits at other there =
    let before_start = begins_before 0 0 g at other (omega arith) there in let low : at < round_start g = omega arith in
    let front : get_elem? (h ++ entry.Round number ∷ []) at ≡ some (entry.Round other) = ap (λ (l : List Entry). get_elem? l at) merged ∙ (at_front g (round_start g) at low ∙ there) in
    ⊎_elim
    (λ (t : (at < length h) × (get_elem? h at ≡ some (entry.Round other))). before at other t.1)
    (λ (t : (at ≡ length h) × (entry.Round number ≡ entry.Round other)). subst (RoundFits plan) (sym t.0) fits)
    (at_end h (entry.Round number) (entry.Round other) at front)

-- where the first round might not fit, a legal history whose rounds had room has no entry
pub nothing_begun : (p : Meaning) (plan : Plan) (h : List Entry) → Legal p plan h → HadRoom plan h → IsFull plan [] → h ≡ []
unfolding LegalNext
nothing_begun p plan [] legal roomy full = refl
nothing_begun p plan (entry.Round number ∷ es) legal roomy full = let room = roomy 0 number refl in let over = full.full in absurd (omega arith)
nothing_begun p plan (entry.Enter thread by at reads ∷ es) legal roomy full = let begun = (legal 0 (entry.Enter thread by at reads) refl).begun in absurd (omega arith)
nothing_begun p plan (entry.Wake thread by at reads ∷ es) legal roomy full = let begun = (legal 0 (entry.Wake thread by at reads) refl).begun in absurd (omega arith)
nothing_begun p plan (entry.Work by did ∷ es) legal roomy full = let begun = (legal 0 (entry.Work by did) refl).begun in absurd (omega arith)
nothing_begun p plan (entry.Steal by from threads reads ∷ es) legal roomy full = let begun = (legal 0 (entry.Steal by from threads reads) refl).begun in absurd (omega arith)
nothing_begun p plan (entry.Fail by from reads ∷ es) legal roomy full = let begun = (legal 0 (entry.Fail by from reads) refl).begun in absurd (omega arith)
nothing_begun p plan (entry.Pass by reads ∷ es) legal roomy full = let begun = (legal 0 (entry.Pass by reads) refl).begun in absurd (omega arith)

-- and such a history isn't whole
pub never_whole : (p : Meaning) (plan : Plan) (h : List Entry) → Whole p plan h → HadRoom plan h → IsFull plan [] → ⊥
never_whole p plan h whole roomy full =
    let none : is_due plan [] ≡ false = subst (λ (g : List Entry). is_due plan g ≡ false) (nothing_begun p plan h whole.legal roomy full) whole.finished in
    let due : is_due plan [] ≡ true = full.due in absurd (cc)
