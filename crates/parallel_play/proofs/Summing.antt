-- Sums over all cores, and over the turns that came back.
use Rattle.std.proofs.Common.{◌≡◌, ℕ, zero, suc, ◌+◌, ◌<◌, ◌≤◌, eqb, ◌||◌, ◌&&◌, Bool, true, false, cond, List, [], ◌∷◌, ◌++◌, filter, length, Some, All, refl, ap, ◌∙◌, arith}
use Rattle.std.specs.List.{list_all, list_any, range_with_len, sum_by}
use Rattle.std.proofs.lemmas.Bool.Decides.{nat_tests}
use Rattle.std.proofs.lemmas.List.{length-append}
use Rattle.std.proofs.lemmas.List.Sums.{sum_by-cons}
use mathlib.Core.Option.{some}
use lib.ListN.{get_elem?}
use Rattle.policy_tree.specs.Meaning.{Meaning}
use Rattle.round_model.specs.declared.entry.Entry.{Entry}
use Rattle.round_model.specs.declared.entry.Entry.TheVariants as entry
use Rattle.round_model.specs.declared.plan.Plan.{Plan}
use Rattle.round_model.specs.Cores.{core_numbers}
use Rattle.round_model.specs.Entries.{acting_core, acts}
use Rattle.round_model.specs.Kinds.{is_round}
use Rattle.round_model.specs.Legal.{Legal, LegalNext}
use Rattle.round_model.specs.Reads.{round_start}
use Rattle.round_model.specs.Scenes.{own_entries}
use Rattle.round_model.proofs.Histories.{legal_induction}
use Rattle.round_model.proofs.Longer.{own_more, own_none, start_of_round, start_stays}
use Rattle.round_model.proofs.There.{acts_there}
use Rattle.round_model.proofs.Totals.{sum_of_both}

-- by each item of a list, and by each number that stands for it
module _ {X : Type 0} where
  sums_alike : (xs : List X) (f : X → ℕ) (g : ℕ → ℕ) (k : ℕ) → ((c : ℕ) (x : X) → get_elem? xs c ≡ some x → f x ≡ g (k + c)) → sum_by f xs ≡ sum_by g (range_with_len k (length xs))
  sums_alike [] f g k same = refl
  sums_alike (x ∷ xs) f g k same =
      let rest = sums_alike xs f g (k + 1) (λ c y there. same (suc c) y there ∙ ap g (omega arith)) in let head : f x ≡ g k = same 0 x refl ∙ ap g (omega arith) in
      let left = sum_by-cons f x xs in let right = sum_by-cons g k (range_with_len (k + 1) (length xs)) in
      omega arith

  any_alike : (xs : List X) (f : X → Bool) (g : ℕ → Bool) (k : ℕ) → ((c : ℕ) (x : X) → get_elem? xs c ≡ some x → f x ≡ g (k + c)) → list_any f xs ≡ list_any g (range_with_len k (length xs))
  any_alike [] f g k same = refl
  any_alike (x ∷ xs) f g k same =
      ap (λ b. b || list_any f xs) (same 0 x refl ∙ ap g (omega arith)) ∙ ap (λ b. g k || b) (any_alike xs f g (k + 1) (λ c y there. same (suc c) y there ∙ ap g (omega arith)))

  pub sums_by_number : (xs : List X) (f : X → ℕ) (g : ℕ → ℕ) → ((c : ℕ) (x : X) → get_elem? xs c ≡ some x → f x ≡ g c) → sum_by f xs ≡ sum_by g (range_with_len 0 (length xs))
  sums_by_number xs f g same = sums_alike xs f g 0 (λ c x there. same c x there ∙ ap g (omega arith))

  pub any_by_number : (xs : List X) (f : X → Bool) (g : ℕ → Bool) → ((c : ℕ) (x : X) → get_elem? xs c ≡ some x → f x ≡ g c) → list_any f xs ≡ list_any g (range_with_len 0 (length xs))
  any_by_number xs f g same = any_alike xs f g 0 (λ c x there. same c x there ∙ ap g (omega arith))

  pub any_same : (f g : X → Bool) (xs : List X) → All (λ x. f x ≡ g x) xs → list_any f xs ≡ list_any g xs
  any_same f g [] same = refl
  any_same f g (x ∷ xs) same =
      ap (λ b. b || list_any f xs) (same 0 x (omega arith)) ∙ ap (λ b. g x || b) (any_same f g xs (λ j d low. same (suc j) d (omega arith)))

pub all_numbers : (test : ℕ → Bool) (k n : ℕ) → ((c : ℕ) → c < k + n → test c ≡ true) → list_all test (range_with_len k n) ≡ true
all_numbers test k zero each = refl
all_numbers test k (suc n) each = ap (λ b. b && list_all test (range_with_len (k + 1) n)) (each k (omega arith)) ∙ all_numbers test (k + 1) n (λ c low. each c (omega arith))

-- one core acts
hits : ℕ → ℕ → ℕ
hits a c = cond (eqb a c) 1 0

none_hit : (a k n : ℕ) → a < k → sum_by (hits a) (range_with_len k n) ≡ 0
unfolding hits
none_hit a k zero low = refl
none_hit a k (suc n) low =
    let miss : eqb a k ≡ false = grind (arith, low, nat_tests) in let here : hits a k ≡ 0 = ap (λ b. cond b 1 0) miss in
    let rest = none_hit a (k + 1) n (omega arith) in let cons = sum_by-cons (hits a) k (range_with_len (k + 1) n) in
    omega (arith, cons, here, rest)

one_hit : (a k n : ℕ) → k ≤ a → a < k + n → sum_by (hits a) (range_with_len k n) ≡ 1
unfolding hits
one_hit a k zero low high = absurd (omega arith)
one_hit a k (suc n) low high =
    let cons = sum_by-cons (hits a) k (range_with_len (k + 1) n) in
    elim (eqb a k) as (λ b. eqb a k ≡ b → sum_by (hits a) (range_with_len k (suc n)) ≡ 1) [
      | true ↦ λ e. let same : a ≡ k = grind (arith, nat_tests) in let here : hits a k ≡ 1 = ap (λ b. cond b 1 0) e in
          let rest = none_hit a (k + 1) n (omega (arith, same)) in omega (arith, cons, here, rest)
      | false ↦ λ e. let here : hits a k ≡ 0 = ap (λ b. cond b 1 0) e in let more : k + 1 ≤ a = grind (arith, low, nat_tests) in
          let rest = one_hit a (k + 1) n more (omega arith) in omega (arith, cons, here, rest)
    ] refl

none_at_all : (f : ℕ → ℕ) (xs : List ℕ) → ((c : ℕ) → f c ≡ 0) → sum_by f xs ≡ 0
none_at_all f [] none = refl
none_at_all f (x ∷ xs) none = let here = none x in let rest = none_at_all f xs none in let cons = sum_by-cons f x xs in omega arith

acts_as : (e : Entry) (a c : ℕ) → acting_core e ≡ Some a → acts c e ≡ eqb a c
unfolding acts
acts_as (entry.Round number) a c is = absurd (cc)
acts_as (entry.Enter thread by at reads) a c is = let same : by ≡ a = cc in ap (λ k. eqb k c) same
acts_as (entry.Wake thread by at reads) a c is = let same : by ≡ a = cc in ap (λ k. eqb k c) same
acts_as (entry.Work by what) a c is = let same : by ≡ a = cc in ap (λ k. eqb k c) same
acts_as (entry.Steal by from threads reads) a c is = let same : by ≡ a = cc in ap (λ k. eqb k c) same
acts_as (entry.Fail by from reads) a c is = let same : by ≡ a = cc in ap (λ k. eqb k c) same
acts_as (entry.Pass by reads) a c is = let same : by ≡ a = cc in ap (λ k. eqb k c) same

actor_of : (e : Entry) → is_round e ≡ false → (a : ℕ) × (acting_core e ≡ Some a)
actor_of (entry.Round number) not = absurd (cc)
actor_of (entry.Enter thread by at reads) not = (by, refl)
actor_of (entry.Wake thread by at reads) not = (by, refl)
actor_of (entry.Work by what) not = (by, refl)
actor_of (entry.Steal by from threads reads) not = (by, refl)
actor_of (entry.Fail by from reads) not = (by, refl)
actor_of (entry.Pass by reads) not = (by, refl)

one_long : (b : Bool) (e : Entry) → length (cond b (e ∷ []) []) ≡ cond b 1 0
one_long true e = refl
one_long false e = refl

-- the entries are those up to the open round's start, and what each core did since
module _ (p : Meaning) (plan : Plan) where
  abbrev own_total : List Entry → ℕ
  own_total h = sum_by (λ c. length (own_entries h c)) (core_numbers plan)

  own_longer : (h : List Entry) (e : Entry) (a c : ℕ) → is_round e ≡ false → acting_core e ≡ Some a → length (own_entries (h ++ e ∷ []) c) ≡ length (own_entries h c) + hits a c
  unfolding hits
  own_longer h e a c not acting =
      ap length (own_more h e c not) ∙ (length-append (own_entries h c) (filter (acts c) (e ∷ [])) ∙ ap (λ n. length (own_entries h c) + n) (one_long (acts c e) e ∙ ap (λ b. cond b 1 0) (acts_as e a c acting)))

  more_split : (h : List Entry) (e : Entry) → LegalNext p plan h e → length h ≡ round_start h + own_total h → (b : Bool) → is_round e ≡ b → length (h ++ e ∷ []) ≡ round_start (h ++ e ∷ []) + own_total (h ++ e ∷ [])
  more_split h e next so_far true is =
      let start = start_of_round h e is in let none = none_at_all (λ c. length (own_entries (h ++ e ∷ []) c)) (core_numbers plan) (λ c. ap length (own_none h e c is)) in
      let long = length-append h (e ∷ []) in omega arith
  more_split h e next so_far false is =
      let actor = actor_of e is in let a : ℕ = actor.0 in let there = acts_there p plan h e a actor.1 next in
      let start = start_stays h e is in let long = length-append h (e ∷ []) in
      let sums : own_total (h ++ e ∷ []) ≡ sum_by (λ c. length (own_entries h c) + hits a c) (core_numbers plan) =
      ap (λ (f : ℕ → ℕ). sum_by f (core_numbers plan)) (λ i c. own_longer h e a c is actor.1 i) in
      let both = sum_of_both (λ c. length (own_entries h c)) (hits a) (core_numbers plan) in
      let one = one_hit a 0 plan.cores (omega arith) (omega arith) in
      omega arith

  pub entries_split : (h : List Entry) → Legal p plan h → length h ≡ round_start h + own_total h
  entries_split h legal =
      legal_induction p plan (λ g. length g ≡ round_start g + own_total g)
      (let none = none_at_all (λ c. length (own_entries [] c)) (core_numbers plan) (λ c. refl) in omega arith)
      (λ g e so_far next split. more_split g e next split (is_round e) refl) h legal
