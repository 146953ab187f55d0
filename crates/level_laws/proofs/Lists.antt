-- Filters and bests of lists.
use Rattle.std.proofs.Common.{◌≡◌, Bool, true, false, cond, ◌&&◌, List, [], ◌∷◌, filter, IfSome, Option, Some, None, refl, ap, ap₂, ◌∙◌}
use Rattle.std.specs.List.{AllByRecursion}
use Rattle.policy_eval.specs.Orders.{best_of, better_of}

module _ {X : Type 0} where
  -- by two orders that agree on these items the best is the same, and one of them
  pub best_same : (first second : X → X → Bool) (P : X → Type 0) → ((x y : X) → P x → P y → first x y ≡ second x y)
      → (xs : List X) → AllByRecursion P xs → (best_of first xs ≡ best_of second xs) × IfSome (best_of first xs) P
  best_same first second P same [] are = (refl, tt)
  best_same first second P same (x ∷ xs) are =
      let rest = best_same first second P same xs are.1 in
      (better (best_of first xs) rest.1 ∙ ap (λ (o : Option X). Some (better_of second x o)) rest.0, member (best_of first xs) rest.1)
    where
      better : (o : Option X) → IfSome o P → Some (better_of first x o) ≡ Some (better_of second x o)
      better None is = refl
      better (Some y) is = ap (λ b. Some (cond b y x)) (same y x is are.0)

      member : (o : Option X) → IfSome o P → P (better_of first x o)
      member None is = are.0
      member (Some y) is = elim (first y x) as (λ b. P (cond b y x)) [ true ↦ is | false ↦ are.0 ]

  -- what holds of each item holds of the best
  pub best_among : (before : X → X → Bool) (P : X → Type 0) (xs : List X) → AllByRecursion P xs → IfSome (best_of before xs) P
  best_among before P xs are = (best_same before before P (λ x y own other. refl) xs are).1

  pub none_best : (before : X → X → Bool) (xs : List X) → best_of before xs ≡ None → xs ≡ []
  none_best before [] is = refl
  none_best before (x ∷ xs) is = absurd (cc)

  -- the items that a filter leaves pass
  pub those_pass : (test : X → Bool) (xs : List X) → AllByRecursion (λ x. test x ≡ true) (filter test xs)
  those_pass test [] = tt
  those_pass test (x ∷ xs) =
      elim (test x) as (λ b. test x ≡ b → AllByRecursion (λ y. test y ≡ true) (cond b (x ∷ filter test xs) (filter test xs))) [
        | true ↦ λ own. (own, those_pass test xs)
        | false ↦ λ own. those_pass test xs
      ] refl

  -- where a filter leaves nothing no item passes
  pub none_pass : (test : X → Bool) (xs : List X) → filter test xs ≡ [] → AllByRecursion (λ x. test x ≡ false) xs
  none_pass test [] is = tt
  none_pass test (x ∷ xs) is =
      elim (test x) as (λ b. test x ≡ b → cond b (x ∷ filter test xs) (filter test xs) ≡ [] → (test x ≡ false) × AllByRecursion (λ y. test y ≡ false) xs) [
        | true ↦ λ own left. absurd (cc)
        | false ↦ λ own left. (own, none_pass test xs left)
      ] refl is

  -- where no item passes a filter leaves nothing
  pub nothing_left : (test : X → Bool) → ((x : X) → test x ≡ false) → (xs : List X) → filter test xs ≡ []
  nothing_left test fails [] = refl
  nothing_left test fails (x ∷ xs) = ap (λ b. cond b (x ∷ filter test xs) (filter test xs)) (fails x) ∙ nothing_left test fails xs

  -- two filters that agree on these items leave the same
  pub filter_same : (first second : X → Bool) (P : X → Type 0) → ((x : X) → P x → first x ≡ second x)
      → (xs : List X) → AllByRecursion P xs → filter first xs ≡ filter second xs
  filter_same first second P same [] are = refl
  filter_same first second P same (x ∷ xs) are =
      ap₂ (λ b (rest : List X). cond b (x ∷ rest) rest) (same x are.0) (filter_same first second P same xs are.1)

  -- a filter behind another
  pub filter_twice : (first second : X → Bool) (xs : List X) → filter second (filter first xs) ≡ filter (λ x. first x && second x) xs
  filter_twice first second [] = refl
  filter_twice first second (x ∷ xs) =
      elim (first x) as (λ b. filter second (cond b (x ∷ filter first xs) (filter first xs)) ≡ cond (b && second x) (x ∷ filter (λ y. first y && second y) xs) (filter (λ y. first y && second y) xs)) [
        | true ↦ ap (λ (rest : List X). cond (second x) (x ∷ rest) rest) (filter_twice first second xs)
        | false ↦ filter_twice first second xs
      ]

  pub each_more : (P Q : X → Type 0) → ((x : X) → P x → Q x) → (xs : List X) → AllByRecursion P xs → AllByRecursion Q xs
  each_more P Q more [] are = tt
  each_more P Q more (x ∷ xs) are = (more x are.0, each_more P Q more xs are.1)
