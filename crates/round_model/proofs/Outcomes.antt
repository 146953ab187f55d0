-- Choices and targets by values that agree on the cores that there are.
use Rattle.std.proofs.Common.{◌≡◌, ◌≢◌, ℕ, zero, suc, ◌+◌, ◌==◌, ◌<◌, ◌≤◌, Bool, true, false, not, ◌&&◌, cond, int_lt, List, [], ◌∷◌, filter, length, take, All, IfSome, Option, Some, None, eqb, refl, sym, ap, ap₂, ◌∙◌, subst, arith}
use Rattle.std.specs.List.{AllByRecursion, range_with_len}
use Rattle.std.proofs.lemmas.Bool.Decides.{nat_tests}
use Rattle.std.proofs.lemmas.List.{get_or-take, get_or_default, length-take}
use Rattle.policy_tree.specs.Meaning.{Meaning, PlaceTree, here, least}
use Rattle.policy_tree.specs.Trees.{ExprTree}
use Rattle.policy_eval.specs.declared.env.CoreValues.{CoreValues}
use Rattle.policy_eval.specs.Orders.{best_of, better_of, precedes}
use Rattle.policy_eval.specs.Sights.{core_values, pair_values}
use Rattle.policy_eval.specs.Values.{holds, value_of}
use Rattle.round_model.specs.Choices.{candidates_of, choice_of, is_candidate, is_less, no_values, prefers, target_by, target_of, values_in}

-- by two orders that agree on these items the best is the same, and one of them
best_same : {X : Type 0} (first second : X → X → Bool) (P : X → Type 0) → ((x y : X) → P x → P y → first x y ≡ second x y)
    → (xs : List X) → AllByRecursion P xs → (best_of first xs ≡ best_of second xs) × IfSome (best_of first xs) P
best_same first second P same [] are = (refl, tt)
best_same first second P same (x ∷ xs) are =
    let rest = best_same first second P same xs are.1 in
    (better (best_of first xs) rest.1 ∙ ap (λ o. Some (better_of second x o)) rest.0, member (best_of first xs) rest.1)
  where
    better : (o : Option _) → IfSome o P → Some (better_of first x o) ≡ Some (better_of second x o)
    better None is = refl
    better (Some y) is = ap (λ b. Some (cond b y x)) (same y x is are.0)

    member : (o : Option _) → IfSome o P → P (better_of first x o)
    member None is = are.0
    member (Some y) is = elim (first y x) as (λ b. P (cond b y x)) [ true ↦ is | false ↦ are.0 ]

filter_same : {X : Type 0} (first second : X → Bool) (P : X → Type 0) → ((x : X) → P x → first x ≡ second x)
    → (xs : List X) → AllByRecursion P xs → filter first xs ≡ filter second xs
filter_same first second P same [] are = refl
filter_same first second P same (x ∷ xs) are =
    ap₂ (λ b rest. cond b (x ∷ rest) rest) (same x are.0) (filter_same first second P same xs are.1)

filter_keeps : {X : Type 0} (test : X → Bool) (P : X → Type 0) (xs : List X) → AllByRecursion P xs → AllByRecursion P (filter test xs)
filter_keeps test P [] are = tt
filter_keeps test P (x ∷ xs) are =
    elim (test x) as (λ b. AllByRecursion P (cond b (x ∷ filter test xs) (filter test xs))) [ true ↦ (are.0, filter_keeps test P xs are.1) | false ↦ filter_keeps test P xs are.1 ]

numbers_below : (n from k : ℕ) → from + k ≤ n → AllByRecursion (λ c. c < n) (range_with_len from k)
numbers_below n from zero within = tt
numbers_below n from (suc k) within = (omega arith, numbers_below n (from + 1) k (omega arith))

module _ (p : Meaning) (n : ℕ) (f g : ℕ → CoreValues) (same : (c : ℕ) → c < n → f c ≡ g c) where
  candidate_same : (a : ℕ) → a < n → (v : ℕ) → v < n → is_candidate p f a v ≡ is_candidate p g a v
  candidate_same a own v there = ap₂ (λ (x y : CoreValues). not (a == v) && holds (pair_values x y) p.filter) (same a own) (same v there)

  prefers_same : (a : ℕ) → a < n → (v w : ℕ) → v < n → w < n → prefers p f a v w ≡ prefers p g a v w
  prefers_same a own v w first second =
      ap₂ (λ (x y : CoreValues). precedes p.choose (pair_values x y) (pair_values x (f w))) (same a own) (same v first)
      ∙ ap (λ (y : CoreValues). precedes p.choose (pair_values (g a) (g v)) (pair_values (g a) y)) (same w second)

  less_same : (e : ExprTree) (v w : ℕ) → v < n → w < n → is_less e f v w ≡ is_less e g v w
  less_same e v w first second =
      ap₂ (λ (x y : CoreValues). int_lt (value_of (core_values x) e) (value_of (core_values y) e)) (same v first) (same w second)

  -- a choice by the one is that by the other
  pub choice_same : (a : ℕ) → a < n → choice_of p n f a ≡ choice_of p n g a
  unfolding choice_of candidates_of
  choice_same a own =
      let cores = numbers_below n 0 n (omega arith) in
      ap (best_of (prefers p f a)) (filter_same (is_candidate p f a) (is_candidate p g a) (λ c. c < n) (candidate_same a own) (range_with_len 0 n) cores)
      ∙ (best_same (prefers p f a) (prefers p g a) (λ c. c < n) (prefers_same a own) (filter (is_candidate p g a) (range_with_len 0 n))
      (filter_keeps (is_candidate p g a) (λ c. c < n) (range_with_len 0 n) cores)).0

  -- and so is a target
  pub target_same : (a : ℕ) → target_of p n f a ≡ target_of p n g a
  unfolding target_of
  target_same a = by_rule p.place
    where
      by_rule : (rule : PlaceTree) → target_by rule n f a ≡ target_by rule n g a
      by_rule here = refl
      by_rule (least e) = (best_same (is_less e f) (is_less e g) (λ c. c < n) (less_same e) (range_with_len 0 n) (numbers_below n 0 n (omega arith))).0

-- the values of the first cores alone
pub values_in-take : (n : ℕ) (values : List CoreValues) (c : ℕ) → c < n → values_in (take n values) c ≡ values_in values c
values_in-take n values c inside = get_or-take n values c no_values inside

pub values_All : (P : CoreValues → Type 0) (n : ℕ) (values : List CoreValues) → ((c : ℕ) → c < n → P (values_in values c)) → n ≤ length values → All P (take n values)
values_All P n values each long k d inside =
    let below : k < n = omega (arith, length-take n values) in
    subst P (sym (get_or-take n values k d below ∙ get_or_default values k d no_values (omega arith))) (each k below)

-- a choice and a target are among the cores
pub choice_there : (p : Meaning) (n : ℕ) (f : ℕ → CoreValues) (a : ℕ) → IfSome (choice_of p n f a) (λ v. v < n)
unfolding choice_of candidates_of
choice_there p n f a =
    (best_same (prefers p f a) (prefers p f a) (λ c. c < n) (λ x y first second. refl) (filter (is_candidate p f a) (range_with_len 0 n))
    (filter_keeps (is_candidate p f a) (λ c. c < n) (range_with_len 0 n) (numbers_below n 0 n (omega arith)))).1

-- and a core is never its own choice
filter_passing : {X : Type 0} (test : X → Bool) (P : X → Type 0) (xs : List X) → AllByRecursion P xs → AllByRecursion (λ x. P x × (test x ≡ true)) (filter test xs)
filter_passing test P [] are = tt
filter_passing test P (x ∷ xs) are =
    let rest = filter_passing test P xs are.1 in
    elim (test x) as (λ b. test x ≡ b → AllByRecursion (λ y. P y × (test y ≡ true)) (cond b (x ∷ filter test xs) (filter test xs))) [
      | true ↦ λ e. ((are.0, e), rest)
      | false ↦ λ e. rest
    ] refl

candidate_other : (p : Meaning) (f : ℕ → CoreValues) (a v : ℕ) → is_candidate p f a v ≡ true → a ≢ v
candidate_other p f a v is = λ same.
    let own : eqb a v ≡ true = grind (arith, nat_tests) in
    let no : is_candidate p f a v ≡ false = ap (λ b. not b && holds (pair_values (f a) (f v)) p.filter) own in
    let never : true ≡ false = sym is ∙ no in absurd (cc)

pub choice_other : (p : Meaning) (n : ℕ) (f : ℕ → CoreValues) (a : ℕ) → IfSome (choice_of p n f a) (λ v. (v < n) × (a ≢ v))
unfolding choice_of candidates_of
choice_other p n f a = found (best_of (prefers p f a) (filter (is_candidate p f a) (range_with_len 0 n)))
    (best_same (prefers p f a) (prefers p f a) (λ c. (c < n) × (is_candidate p f a c ≡ true)) (λ x y first second. refl)
    (filter (is_candidate p f a) (range_with_len 0 n))
    (filter_passing (is_candidate p f a) (λ c. c < n) (range_with_len 0 n) (numbers_below n 0 n (omega arith)))).1
  where
    found : (o : Option ℕ) → IfSome o (λ c. (c < n) × (is_candidate p f a c ≡ true)) → IfSome o (λ v. (v < n) × (a ≢ v))
    found None is = tt
    found (Some v) is = (is.0, candidate_other p f a v is.1)

pub target_there : (p : Meaning) (n : ℕ) (f : ℕ → CoreValues) (a : ℕ) → a < n → IfSome (target_of p n f a) (λ v. v < n)
unfolding target_of
target_there p n f a own = by_rule p.place
  where
    by_rule : (rule : PlaceTree) → IfSome (target_by rule n f a) (λ v. v < n)
    by_rule here = own
    by_rule (least e) = (best_same (is_less e f) (is_less e f) (λ c. c < n) (λ x y first second. refl) (range_with_len 0 n) (numbers_below n 0 n (omega arith))).1
