-- The thread that enters next stands behind those that have.
use Rattle.std.proofs.Common.{◌≡◌, ℕ, zero, suc, ◌<◌, eqb, ◌&&◌, ◌||◌, not, Bool, true, false, cond, List, [], ◌∷◌, filter, find, take, length, get_or, Some, refl, ap, ap₂, ◌∙◌, arith}
use Rattle.std.specs.List.{list_any}
use Rattle.std.specs.Prelude.{AllPairs, slice_get}
use Rattle.std.proofs.lemmas.Bool.Decides.{nat_tests}
use Rattle.round_model.specs.declared.entry.Entry.{Entry}
use Rattle.round_model.specs.declared.plan.Plan.{Plan}
use Rattle.round_model.specs.declared.plan.Planned.{Planned}
use Rattle.round_model.specs.Entries.{lets_in}
use Rattle.round_model.specs.Scenes.{entering_next}
use Rattle.turn_steps.specs.States.{entering_by}

Apart : List Planned → Type 0
Apart ts = AllPairs (λ (t u : Planned). (t.id ≡ u.id) → ⊥) ts

apart_rest : (t : Planned) (ts : List Planned) → Apart (t ∷ ts) → Apart ts
unfolding Apart
apart_rest t ts apart i j d before inside = apart (suc i) (suc j) d (omega arith) (omega arith)

-- tests that agree on a list find the same in it
find_agree : {X : Type 0} (p q : X → Bool) (xs : List X) → ((k : ℕ) (d : X) → k < length xs → p (get_or xs k d) ≡ q (get_or xs k d)) → find p xs ≡ find q xs
find_agree p q [] same = refl
find_agree p q (x ∷ xs) same = ap₂ (λ b o. cond b (Some x) o) (same 0 x (omega arith)) (find_agree p q xs (λ k d inside. same (suc k) d (omega arith)))

-- whether the thread is one of these
is_among : List Planned → ℕ → Bool
is_among ts id = list_any (λ (p : Planned). eqb p.id id) ts

module _ (class : Planned → Bool) where
  -- of the class, and none of those that are passed
  waits : List Planned → Planned → Bool
  waits passed t = class t && not (is_among passed t.id)

  find_by : (t : Planned) (ts : List Planned) → Apart (t ∷ ts) → ((n : ℕ) → find (waits (take n (filter class ts))) ts ≡ slice_get (filter class ts) n) → (n : ℕ) (b : Bool) → class t ≡ b
      → find (waits (take n (cond b (t ∷ filter class ts) (filter class ts)))) (t ∷ ts) ≡ slice_get (cond b (t ∷ filter class ts) (filter class ts)) n
  unfolding waits is_among Apart
  find_by t ts apart rest n false is =
      ap (λ b. cond (b && not (is_among (take n (filter class ts)) t.id)) (Some t) (find (waits (take n (filter class ts))) ts)) is ∙ rest n
  find_by t ts apart rest zero true is = ap (λ b. cond (b && true) (Some t) (find (waits []) ts)) is
  find_by t ts apart rest (suc n) true is =
      let passed : List Planned = take n (filter class ts) in let own : eqb t.id t.id ≡ true = grind (arith, nat_tests) in
      ap₂ (λ b c. cond (b && not (c || is_among passed t.id)) (Some t) (find (waits (t ∷ passed)) ts)) is own
      ∙ (find_agree (waits (t ∷ passed)) (waits passed) ts (λ k d inside.
      let other = apart 0 (suc k) d (omega arith) (omega arith) in
      ap (λ c. class (get_or ts k d) && not (c || is_among passed (get_or ts k d).id)) (let differ : eqb t.id (get_or ts k d).id ≡ false = grind (arith, nat_tests) in differ))
      ∙ rest n)

  find_next : (ts : List Planned) → Apart ts → (n : ℕ) → find (waits (take n (filter class ts))) ts ≡ slice_get (filter class ts) n
  find_next [] apart n = refl
  find_next (t ∷ ts) apart n = find_by t ts apart (find_next ts (apart_rest t ts apart)) n (class t) refl

-- where the first so many of the threads that enter have entered, the next one is to enter
pub enters_next : (plan : Plan) (round a : ℕ) (own : List Entry) (n : ℕ) → AllPairs (λ (t u : Planned). (t.id ≡ u.id) → ⊥) plan.threads
    → ((id : ℕ) → list_any (lets_in id) own ≡ list_any (λ (p : Planned). eqb p.id id) (take n (entering_by plan a round)))
    → entering_next plan round a own ≡ slice_get (entering_by plan a round) n
unfolding entering_next waits is_among Apart
enters_next plan round a own n apart entered =
    ap (λ (test : Planned → Bool). find test plan.threads) (λ i t. (eqb t.core a && eqb t.round round) && not (entered t.id i))
    ∙ find_next (λ t. eqb t.core a && eqb t.round round) plan.threads apart n
