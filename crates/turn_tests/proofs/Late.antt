-- Where a core has run its unit no thread is left that it is to let in or to wake, and who has made its attempt has run
-- its unit.
use Rattle.std.proofs.Common.{◌≡◌, ℕ, eqb, ◌||◌, ◌&&◌, ◌⊎◌, inl, inr, ⊎_elim, not, Bool, true, false, cond, List, [], ◌∷◌, ◌++◌, find, length, Some, refl, sym, ap, ◌∙◌, subst, arith, take_all}
use Rattle.std.specs.Prelude.{IsNone}
use Rattle.std.specs.List.{list_any}
use Rattle.std.proofs.lemmas.Bool.Decides.{nat_tests}
use Rattle.policy_tree.specs.Meaning.{Meaning}
use Rattle.round_model.specs.declared.entry.Entry.{Entry}
use Rattle.round_model.specs.declared.entry.Entry.TheVariants as entry
use Rattle.round_model.specs.declared.plan.Plan.{Plan}
use Rattle.round_model.specs.declared.plan.Planned.{Planned}
use Rattle.round_model.specs.After.{round_of}
use Rattle.round_model.specs.Progress.{HasLetIn}
use Rattle.round_model.specs.Entries.{acting_core, acts, lets_in}
use Rattle.round_model.specs.Fits.{Fits}
use Rattle.round_model.specs.Kinds.{is_attempt, is_round, is_work}
use Rattle.round_model.specs.Legal.{Legal, LegalNext}
use Rattle.round_model.specs.Rows.{Row}
use Rattle.round_model.specs.Scenes.{entering_next, has_attempted, has_worked, is_entering, own_entries, scene_of}
use Rattle.round_model.proofs.Acting.{no_round}
use Rattle.round_model.proofs.Grows.{legal_grows, legal_prefix}
use Rattle.round_model.proofs.Longer.{done_more, own_more, own_none}
use Rattle.serial_steps.specs.Turns.{HasWoken}
use Rattle.core_table.proofs.Histories.{by_last, early}
use Rattle.turn_tests.proofs.Growing.{due_stays, round_same}

-- what finds nothing finds nothing where fewer pass
find_none : {X : Type 0} (f g : X → Bool) → ((x : X) → f x ≡ false → g x ≡ false) → (xs : List X) → IsNone (find f xs) → IsNone (find g xs)
find_none f g fewer [] is = refl
find_none f g fewer (x ∷ xs) is = elim (f x) as (λ b. f x ≡ b → IsNone (cond b (Some x) (find f xs)) → IsNone (cond (g x) (Some x) (find g xs))) [
  | true ↦ λ yes found. absurd (cc)
  | false ↦ λ no rest. subst (λ b. IsNone (cond b (Some x) (find g xs))) (sym (fewer x no)) (find_none f g fewer xs rest)
] refl is

and_not : (b u v : Bool) → (b && not u) ≡ false → (b && not (u || v)) ≡ false
and_not true true v is = refl
and_not true false v is = absurd (cc)
and_not false u v is = refl

either_true : (u v : Bool) → (u || v) ≡ true → (u ≡ true) ⊎ (v ≡ true)
either_true true v is = inl refl
either_true false v is = inr is

both_true : (u v : Bool) → (u && v) ≡ true → (u ≡ true) × (v ≡ true)
both_true true v is = (refl, is)
both_true false v is = absurd (cc)

or_first : (u v : Bool) → u ≡ true → (u || v) ≡ true
or_first true v is = refl
or_first false v is = absurd (cc)

-- a round begins, or a core acts
kind_of : (e : Entry) → (is_round e ≡ true) ⊎ ((by : ℕ) × (acting_core e ≡ Some by))
kind_of (entry.Round number) = inl refl
kind_of (entry.Enter thread by at reads) = inr (by, refl)
kind_of (entry.Wake thread by at reads) = inr (by, refl)
kind_of (entry.Work by what) = inr (by, refl)
kind_of (entry.Steal by from threads reads) = inr (by, refl)
kind_of (entry.Fail by from reads) = inr (by, refl)
kind_of (entry.Pass by reads) = inr (by, refl)

same_core : (by a : ℕ) → eqb by a ≡ true → by ≡ a
same_core by a is = grind (arith, nat_tests)

module _ (p : Meaning) (plan : Plan) (fits : Fits p plan) (a : ℕ) where
  abbrev IsLate : List Entry → Type 0
  IsLate h = HasLetIn plan h a × HasWoken p plan h a

  -- by what the core does a unit is legal
  unit_late : (h : List Entry) (e : Entry) → is_work e ≡ true → acts a e ≡ true → LegalNext p plan h e → IsLate h
  unfolding LegalNext Row scene_of acts
  unit_late h (entry.Round number) work own legal = absurd (cc)
  unit_late h (entry.Enter thread by at reads) work own legal = absurd (cc)
  unit_late h (entry.Wake thread by at reads) work own legal = absurd (cc)
  unit_late h (entry.Work by what) work own legal = subst (λ (c : ℕ). HasLetIn plan h c × HasWoken p plan h c) (same_core by a own) (legal.row.entered, legal.row.woken)
  unit_late h (entry.Steal by from threads reads) work own legal = absurd (cc)
  unit_late h (entry.Fail by from reads) work own legal = absurd (cc)
  unit_late h (entry.Pass by reads) work own legal = absurd (cc)

  -- and an attempt
  attempt_late : (h : List Entry) (e : Entry) → is_attempt e ≡ true → acts a e ≡ true → LegalNext p plan h e → has_worked (own_entries h a) ≡ true
  unfolding LegalNext Row scene_of acts
  attempt_late h (entry.Round number) tries own legal = absurd (cc)
  attempt_late h (entry.Enter thread by at reads) tries own legal = absurd (cc)
  attempt_late h (entry.Wake thread by at reads) tries own legal = absurd (cc)
  attempt_late h (entry.Work by what) tries own legal = absurd (cc)
  attempt_late h (entry.Steal by from threads reads) tries own legal = subst (λ (c : ℕ). has_worked (own_entries h c) ≡ true) (same_core by a own) legal.row.worked
  attempt_late h (entry.Fail by from reads) tries own legal = subst (λ (c : ℕ). has_worked (own_entries h c) ≡ true) (same_core by a own) legal.row.worked
  attempt_late h (entry.Pass by reads) tries own legal = subst (λ (c : ℕ). has_worked (own_entries h c) ≡ true) (same_core by a own) legal.row.worked

  -- One entry more.
  module _ (h : List Entry) (e : Entry) where
    before : Legal p plan (h ++ e ∷ []) → Legal p plan h
    before legal = subst (Legal p plan) (early h e (length h) (omega arith) ∙ take_all (length h) h (omega arith)) (legal_prefix p plan (h ++ e ∷ []) (length h) legal)

    module _ (by : ℕ) (acting : acting_core e ≡ Some by) where
      more : (test : Entry → Bool) → list_any test (own_entries (h ++ e ∷ []) a) ≡ (list_any test (own_entries h a) || (acts a e && test e))
      more test = ap (list_any test) (own_more h e a (no_round e by acting)) ∙ done_more test (own_entries h a) e a

      let_in_still : HasLetIn plan h a → HasLetIn plan (h ++ e ∷ []) a
      unfolding entering_next
      let_in_still is =
          subst (λ (r : ℕ). IsNone (find (is_entering r a (own_entries (h ++ e ∷ []) a)) plan.threads)) (sym (round_same p plan fits h e by acting))
          (find_none (is_entering (round_of h) a (own_entries h a)) (is_entering (round_of h) a (own_entries (h ++ e ∷ []) a))
          (λ (t : Planned) no. ap (λ b. (eqb t.core a && eqb t.round (round_of h)) && not b) (more (lets_in t.id))
          ∙ and_not (eqb t.core a && eqb t.round (round_of h)) (list_any (lets_in t.id) (own_entries h a)) (acts a e && lets_in t.id e) no)
          plan.threads is)

      late_still : IsLate h → IsLate (h ++ e ∷ [])
      late_still is = (let_in_still is.0, due_stays p plan fits h e by acting a is.1)

      unit_more : LegalNext p plan h e → (Legal p plan h → has_worked (own_entries h a) ≡ true → IsLate h) → Legal p plan h → has_worked (own_entries (h ++ e ∷ []) a) ≡ true → IsLate (h ++ e ∷ [])
      unit_more next rest legal worked = late_still (⊎_elim
          (λ (old : has_worked (own_entries h a) ≡ true). rest legal old)
          (λ (new : (acts a e && is_work e) ≡ true). let both = both_true (acts a e) (is_work e) new in unit_late h e both.1 both.0 next)
          (either_true (has_worked (own_entries h a)) (acts a e && is_work e) (sym (more is_work) ∙ worked)))

      attempt_more : LegalNext p plan h e → (Legal p plan h → has_attempted (own_entries h a) ≡ true → has_worked (own_entries h a) ≡ true) → Legal p plan h
          → has_attempted (own_entries (h ++ e ∷ []) a) ≡ true → has_worked (own_entries (h ++ e ∷ []) a) ≡ true
      attempt_more next rest legal tried = more is_work ∙ or_first (has_worked (own_entries h a)) (acts a e && is_work e) (⊎_elim
          (λ (old : has_attempted (own_entries h a) ≡ true). rest legal old)
          (λ (new : (acts a e && is_attempt e) ≡ true). let both = both_true (acts a e) (is_attempt e) new in attempt_late h e both.1 both.0 next)
          (either_true (has_attempted (own_entries h a)) (acts a e && is_attempt e) (sym (more is_attempt) ∙ tried)))

    none_yet : (test : Entry → Bool) → is_round e ≡ true → list_any test (own_entries (h ++ e ∷ []) a) ≡ true → ⊥
    none_yet test is some = let none : list_any test (own_entries (h ++ e ∷ []) a) ≡ false = ap (list_any test) (own_none h e a is) in let both = sym none ∙ some in absurd (cc)

  pub worked_late : (h : List Entry) → Legal p plan h → has_worked (own_entries h a) ≡ true → HasLetIn plan h a × HasWoken p plan h a
  worked_late = by_last (λ h. Legal p plan h → has_worked (own_entries h a) ≡ true → IsLate h) (λ legal worked. absurd (cc))
      (λ h e rest legal worked. ⊎_elim
      (λ (begins : is_round e ≡ true). absurd (none_yet h e is_work begins worked))
      (λ (acting : (by : ℕ) × (acting_core e ≡ Some by)). unit_more h e acting.0 acting.1 (legal_grows.last p plan h e legal) rest (before h e legal) worked)
      (kind_of e))

  pub attempted_worked : (h : List Entry) → Legal p plan h → has_attempted (own_entries h a) ≡ true → has_worked (own_entries h a) ≡ true
  attempted_worked = by_last (λ h. Legal p plan h → has_attempted (own_entries h a) ≡ true → has_worked (own_entries h a) ≡ true) (λ legal tried. absurd (cc))
      (λ h e rest legal tried. ⊎_elim
      (λ (begins : is_round e ≡ true). absurd (none_yet h e is_attempt begins tried))
      (λ (acting : (by : ℕ) × (acting_core e ≡ Some by)). attempt_more h e acting.0 acting.1 (legal_grows.last p plan h e legal) rest (before h e legal) tried)
      (kind_of e))
