-- Threads enter as planned, and acting cores.
use Rattle.std.proofs.Common.{◌≡◌, ℕ, suc, Bool, true, false, not, ◌&&◌, cond, eqb, List, [], ◌∷◌, take, find, Contains, Option, Some, None, IsSomeAnd, refl, sym, ap, ◌∙◌, subst, arith, ◌↔◌, IsTrue}
use Rattle.std.proofs.lemmas.Bool.Decides.{nat_tests}
use Rattle.round_model.specs.declared.entry.Entry.{Entry}
use Rattle.round_model.specs.declared.entry.Entry.TheVariants as entry
use Rattle.round_model.specs.declared.plan.Plan.{Plan}
use Rattle.round_model.specs.declared.plan.Planned.{Planned}
use Rattle.round_model.specs.After.{round_of}
use Rattle.round_model.specs.Entries.{acts, lets_in}
use Rattle.round_model.specs.Laws.{ActingLaw, EnteringLaw, EntersAsPlanned}
use Rattle.round_model.specs.Legal.{LegalNext}
use Rattle.round_model.specs.Rows.{Row}
use Rattle.round_model.specs.Scenes.{entering_next, is_entering, own_entries, scene_of}
use Rattle.std.specs.List.{list_any}

-- an acting core is the number in its entry
same_core : (by c : ℕ) → IsTrue (eqb by c) ↔ (◌≡◌ {A = Option ℕ} (Some by) (Some c))
same_core by c = ((λ test. let same : by ≡ c = grind (arith, nat_tests) in ap Some same), (λ is. let same : by ≡ c = cc in grind (arith, nat_tests)))

pub acting : ActingLaw
unfolding acts
acting c (entry.Round number) = ((λ test. absurd (cc)), (λ is. absurd (cc)))
acting c (entry.Enter thread by at reads) = same_core by c
acting c (entry.Wake thread by at reads) = same_core by c
acting c (entry.Work by what) = same_core by c
acting c (entry.Steal by from threads reads) = same_core by c
acting c (entry.Fail by from reads) = same_core by c
acting c (entry.Pass by reads) = same_core by c

-- what is found is in the list, and passes
Found : {X : Type 0} → (X → Bool) → List X → X → Type 0
Found test xs x = Contains xs x × (test x ≡ true)

Found-later : {X : Type 0} (test : X → Bool) (y : X) (ys : List X) (x : X) → Found test ys x → Found test (y ∷ ys) x
unfolding Found
Found-later test y ys x ((k, inside, is), passes) = ((suc k, omega arith, is), passes)

-- the first item either passes, or it is found among the others
found_cases : {X : Type 0} (test : X → Bool) (y : X) (ys : List X) (x : X) (b : Bool) → test y ≡ b → find test (y ∷ ys) ≡ Some x
    → (find test ys ≡ Some x → Found test ys x) → Found test (y ∷ ys) x
unfolding Found
found_cases test y ys x true passes is later =
    let first : Some y ≡ Some x = sym (ap (λ b. cond b (Some y) (find test ys)) passes) ∙ is in
    let same : y ≡ x = cc in
    ((0, omega arith, same), subst (λ z. test z ≡ true) same passes)
found_cases test y ys x false fails is later = Found-later test y ys x (later (sym (ap (λ b. cond b (Some y) (find test ys)) fails) ∙ is))

found_in : {X : Type 0} (test : X → Bool) (xs : List X) (x : X) → find test xs ≡ Some x → Found test xs x
found_in test [] x is = absurd (cc)
found_in test (y ∷ ys) x is = found_cases test y ys x (test y) refl is (found_in test ys x)

and_true : (a b : Bool) → (a && b) ≡ true → (a ≡ true) × (b ≡ true)
and_true true b e = (refl, e)
and_true false b e = absurd (cc)

pub entering_parts : (round a : ℕ) (own : List Entry) (t : Planned) → is_entering round a own t ≡ true → (t.core ≡ a) × (t.round ≡ round)
entering_parts round a own t test =
    let parts = and_true (eqb t.core a && eqb t.round round) (not (list_any (lets_in t.id) own)) test in
    let first = and_true (eqb t.core a) (eqb t.round round) parts.0 in
    (grind (arith, nat_tests), grind (arith, nat_tests))

pub as_planned : (plan : Plan) (round by thread : ℕ) (own : List Entry) (next : Option Planned) → find (is_entering round by own) plan.threads ≡ next
    → IsSomeAnd next (λ (t : Planned). t.id ≡ thread) → EntersAsPlanned plan round thread by
unfolding Found
as_planned plan round by thread own None is next = absurd next
as_planned plan round by thread own (Some t) is next =
    let found = found_in (is_entering round by own) plan.threads t is in
    let parts = entering_parts round by own t found.1 in
    record { planned = t; of_plan = found.0; id = next; core = parts.0; in_round = parts.1 }

pub entering : EnteringLaw
unfolding LegalNext Row scene_of entering_next
entering p plan history k thread by at reads legal is =
    let h = take k history in let row = (legal k (entry.Enter thread by at reads) is).row in
    as_planned plan (round_of h) by thread (own_entries h by) (entering_next plan (round_of h) by (own_entries h by)) refl row.next
