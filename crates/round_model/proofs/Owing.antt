-- What is owed, by its parts, and that an entry leaves what other cores owe.
use Rattle.std.proofs.Common.{◌≡◌, ◌≢◌, ℕ, ◌+◌, ◌<◌, ◌≤◌, ◌||◌, ◌&&◌, not, eqb, Bool, true, false, cond, List, [], ◌∷◌, ◌++◌, find, count_by, Some, IsNone, refl, sym, ap, ap₂, ◌∙◌, arith}
use Rattle.std.proofs.lemmas.Bool.Decides.{nat_tests}
use Rattle.std.proofs.lemmas.List.{append-nil}
use Rattle.std.proofs.lemmas.List.Sums.{sum_by-cons}
use Rattle.policy_tree.specs.Meaning.{Meaning}
use Rattle.round_model.specs.declared.entry.Entry.{Entry}
use Rattle.round_model.specs.declared.entry.Entry.TheVariants as entry
use Rattle.round_model.specs.declared.plan.Plan.{Plan}
use Rattle.round_model.specs.declared.state.Blocked.{Blocked}
use Rattle.round_model.specs.After.{after, moved, round_of}
use Rattle.round_model.specs.Cores.{Cores}
use Rattle.round_model.specs.Entries.{acting_core, acts}
use Rattle.round_model.specs.Fits.{Fits}
use Rattle.round_model.specs.Kinds.{is_round}
use Rattle.round_model.specs.Legal.{LegalNext, rounds_begun}
use Rattle.round_model.specs.Owed.{owed}
use Rattle.round_model.specs.Scenes.{has_attempted, has_worked, is_due_blocked, is_entering, own_entries, scene_of}
use Rattle.round_model.proofs.Acting.{acts_is, no_round, round_stays}
use Rattle.round_model.proofs.Counting.{counted}
use Rattle.round_model.proofs.Changed.{enter_leaves, fail_leaves, pass_leaves, steal_leaves, wake_others, work_others}
use Rattle.round_model.proofs.Grows.{one_more}
use Rattle.round_model.proofs.Longer.{begun_more, own_more, round_of_more}

-- what is owed, by its parts
abbrev pub sum_owed : (entering due : ℕ) → (worked attempted : Bool) → ℕ
sum_owed entering due worked attempted = entering + cond worked 0 due + cond worked 0 1 + cond attempted 0 1

pub same_sum : (e f d c : ℕ) (w v a b : Bool) → e ≡ f → d ≡ c → w ≡ v → a ≡ b → sum_owed e d w a ≡ sum_owed f c v b
same_sum e f d c w v a b entering due worked attempted =
    ap₂ (λ x y. sum_owed x y w a) entering due ∙ ap₂ (λ x y. sum_owed f c x y) worked attempted

pub none_by : (b c : Bool) → (b || (c && false)) ≡ b
none_by true c = refl
none_by false true = refl
none_by false false = refl

pub not_none : (b c : Bool) → (b && not (c && false)) ≡ b
not_none true true = refl
not_none true false = refl
not_none false c = refl

pub none_found : {X : Type 0} (test : X → Bool) (xs : List X) → IsNone (find test xs) → count_by test xs ≡ 0
none_found test [] none = refl
none_found test (x ∷ xs) none =
    let cons = sum_by-cons (λ y. counted (test y)) x xs in
    elim (test x) as (λ b. test x ≡ b → IsNone (cond b (Some x) (find test xs)) → count_by test (x ∷ xs) ≡ 0) [
      | true ↦ λ is found. absurd (cc)
      | false ↦ λ is found. let here : counted (test x) ≡ 0 = ap counted is in let rest = none_found test xs found in omega arith
    ] refl none

-- what is found is counted
pub some_counted : {X : Type 0} (test f : X → Bool) (xs : List X) (x : X) → find test xs ≡ Some x → f x ≡ true → 1 ≤ count_by f xs
some_counted test f [] x is passes = absurd (cc)
some_counted test f (y ∷ ys) x is passes =
    let cons = sum_by-cons (λ z. counted (f z)) y ys in
    elim (test y) as (λ b. cond b (Some y) (find test ys) ≡ Some x → 1 ≤ count_by f (y ∷ ys)) [
      | true ↦ λ found. let same : y ≡ x = cc in let here : counted (f y) ≡ 1 = ap (λ z. counted (f z)) same ∙ ap counted passes in omega arith
      | false ↦ λ found. let rest = some_counted test f ys x found passes in omega arith
    ] is

-- where only one passes the second test, it is found by it too
pub found_by_both : {X : Type 0} (test f : X → Bool) (xs : List X) (x : X) → find test xs ≡ Some x → f x ≡ true → count_by f xs ≤ 1 → find f xs ≡ Some x
found_by_both test f [] x is passes once = absurd (cc)
found_by_both test f (y ∷ ys) x is passes once =
    let cons = sum_by-cons (λ z. counted (f z)) y ys in
    elim (test y) as (λ b. cond b (Some y) (find test ys) ≡ Some x → find f (y ∷ ys) ≡ Some x) [
      | true ↦ λ found. let same : y ≡ x = cc in ap (λ b. cond b (Some y) (find f ys)) (ap f same ∙ passes) ∙ found
      | false ↦ λ found.
          let later = some_counted test f ys x found passes in
          elim (f y) as (λ b. f y ≡ b → cond b (Some y) (find f ys) ≡ Some x) [
            | true ↦ λ own. absurd (let here : counted (f y) ≡ 1 = ap counted own in omega arith)
            | false ↦ λ own. let here : counted (f y) ≡ 0 = ap counted own in found_by_both test f ys x found passes (omega arith)
          ] refl
    ] is

own_other : (h : List Entry) (e : Entry) (c : ℕ) → is_round e ≡ false → acts c e ≡ false → own_entries (h ++ e ∷ []) c ≡ own_entries h c
own_other h e c inner other = own_more h e c inner ∙ (ap (λ b. own_entries h c ++ cond b (e ∷ []) []) other ∙ append-nil (own_entries h c))

module _ (p : Meaning) (plan : Plan) where
  pub owed_is : (h : List Entry) (c : ℕ) → 0 < rounds_begun h
      → owed p plan h c ≡ sum_owed (count_by (is_entering (round_of h) c (own_entries h c)) plan.threads) (count_by (is_due_blocked (round_of h)) (after p plan h c).blocked) (has_worked (own_entries h c)) (has_attempted (own_entries h c))
  unfolding owed scene_of
  owed_is h c begun =
      let some : eqb (rounds_begun h) 0 ≡ false = grind (arith, nat_tests) in
      ap (λ b. cond b 0 (sum_owed (count_by (is_entering (round_of h) c (own_entries h c)) plan.threads) (count_by (is_due_blocked (round_of h)) (after p plan h c).blocked) (has_worked (own_entries h c)) (has_attempted (own_entries h c)))) some

  pub round_open : (h : List Entry) (e : Entry) (a : ℕ) → acting_core e ≡ Some a → LegalNext p plan h e → 0 < rounds_begun h
  unfolding LegalNext
  round_open h (entry.Round number) a is legal = absurd (cc)
  round_open h (entry.Enter thread by at reads) a is legal = legal.begun
  round_open h (entry.Wake thread by at reads) a is legal = legal.begun
  round_open h (entry.Work by what) a is legal = legal.begun
  round_open h (entry.Steal by from threads reads) a is legal = legal.begun
  round_open h (entry.Fail by from reads) a is legal = legal.begun
  round_open h (entry.Pass by reads) a is legal = legal.begun

  pub still_open : (h : List Entry) (e : Entry) (a : ℕ) → acting_core e ≡ Some a → 0 < rounds_begun h → 0 < rounds_begun (h ++ e ∷ [])
  still_open h e a is begun = omega (arith, begun_more h e, ap (λ b. counted b) (no_round e a is))

  others_blocked : (round : ℕ) (m : Cores) → Fits p plan → (e : Entry) (a c : ℕ) → acting_core e ≡ Some a → eqb a c ≡ false → (moved p plan round e m c).blocked ≡ (m c).blocked
  others_blocked round m fits (entry.Round number) a c is other = absurd (cc)
  others_blocked round m fits (entry.Enter thread by at reads) a c is other = enter_leaves p plan fits round m thread by at reads c
  others_blocked round m fits (entry.Wake thread by at reads) a c is other = let same : by ≡ a = cc in wake_others p plan fits round m thread by at reads c (ap (λ k. eqb k c) same ∙ other)
  others_blocked round m fits (entry.Work by what) a c is other = let same : by ≡ a = cc in work_others p plan fits round m by what c (ap (λ k. eqb k c) same ∙ other)
  others_blocked round m fits (entry.Steal by from threads reads) a c is other = steal_leaves p plan fits round m by from threads reads c
  others_blocked round m fits (entry.Fail by from reads) a c is other = fail_leaves p plan fits round m by from reads c
  others_blocked round m fits (entry.Pass by reads) a c is other = pass_leaves p plan fits round m by reads c

  -- what another core owes stays
  pub others_owe : (h : List Entry) (e : Entry) (a c : ℕ) → Fits p plan → acting_core e ≡ Some a → LegalNext p plan h e → c ≢ a → owed p plan (h ++ e ∷ []) c ≡ owed p plan h c
  others_owe h e a c fits is legal apart =
      let other : eqb a c ≡ false = grind (arith, nat_tests) in
      let begun = round_open h e a is legal in
      let own = own_other h e c (no_round e a is) (acts_is e a c is ∙ other) in
      let round : round_of (h ++ e ∷ []) ≡ round_of h = round_of_more h e ∙ round_stays e a (round_of h) is in
      let blocked = ap (λ (m : Cores). (m c).blocked) (one_more p plan h e) ∙ others_blocked (round_of h) (after p plan h) fits e a c is other in
      owed_is (h ++ e ∷ []) c (still_open h e a is begun)
      ∙ (same_sum
      (count_by (is_entering (round_of (h ++ e ∷ [])) c (own_entries (h ++ e ∷ []) c)) plan.threads) (count_by (is_entering (round_of h) c (own_entries h c)) plan.threads)
      (count_by (is_due_blocked (round_of (h ++ e ∷ []))) (after p plan (h ++ e ∷ []) c).blocked) (count_by (is_due_blocked (round_of h)) (after p plan h c).blocked)
      (has_worked (own_entries (h ++ e ∷ []) c)) (has_worked (own_entries h c))
      (has_attempted (own_entries (h ++ e ∷ []) c)) (has_attempted (own_entries h c))
      (ap₂ (λ (r : ℕ) (list : List Entry). count_by (is_entering r c list) plan.threads) round own)
      (ap₂ (λ (r : ℕ) (list : List Blocked). count_by (is_due_blocked r) list) round blocked)
      (ap has_worked own) (ap has_attempted own)
      ∙ sym (owed_is h c begun))
