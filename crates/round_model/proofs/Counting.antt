-- Counts of those that pass a test: where they are the same, fewer, and fewer by one.
use Rattle.std.proofs.Common.{◌≡◌, ◌≢◌, ℕ, suc, ◌+◌, ◌≤◌, ◌&&◌, not, eqb, Bool, true, false, cond, List, [], ◌∷◌, find, get_or, count_by, All, IfSome, Option, Some, None, IsSomeAnd, refl, sym, ap, ◌∙◌, arith}
use Rattle.std.specs.Prelude.{AllPairs}
use Rattle.std.proofs.lemmas.Bool.Decides.{nat_tests}
use Rattle.std.proofs.lemmas.List.Sums.{sum_by-cons, sum_by-le-sum_by}
use Rattle.policy_eval.specs.Orders.{best_and_rest, better_and_rest}
use Rattle.round_model.specs.declared.plan.Planned.{Planned}
use Rattle.round_model.specs.Moves.{without_first}
use Rattle.round_model.proofs.Keeping.{All-append, All-one}

-- a test of order, counted
abbrev pub counted : Bool → ℕ
counted b = cond b 1 0

fewer_here : (a b : Bool) → (a ≡ true → b ≡ true) → counted a ≤ counted b
fewer_here true b implies = let is = ap counted (implies refl) in omega arith
fewer_here false b implies = omega arith

module _ {X : Type 0} where
  count_by-cons : (f : X → Bool) (x : X) (xs : List X) → count_by f (x ∷ xs) ≡ counted (f x) + count_by f xs
  count_by-cons f x xs = sum_by-cons (λ y. counted (f y)) x xs

  -- tests that agree on each item
  pub count_same : (f g : X → Bool) (xs : List X) → All (λ x. f x ≡ g x) xs → count_by f xs ≡ count_by g xs
  count_same f g [] same = refl
  count_same f g (x ∷ xs) same =
      let rest = count_same f g xs (λ k d inside. same (suc k) d (omega arith)) in
      let here = ap counted (same 0 x (omega arith)) in
      omega (arith, count_by-cons f x xs, count_by-cons g x xs)

  -- a test that passes less often
  pub count_fewer : (f g : X → Bool) (xs : List X) → ((x : X) → g x ≡ true → f x ≡ true) → count_by g xs ≤ count_by f xs
  count_fewer f g xs implies = sum_by-le-sum_by (λ x. counted (g x)) (λ x. counted (f x)) xs (λ x. fewer_here (g x) (f x) (implies x))

  -- and at some item not any more
  pub count_one_fewer : (f g pick : X → Bool) (xs : List X) (y : X) → ((x : X) → g x ≡ true → f x ≡ true) → find pick xs ≡ Some y → f y ≡ true → g y ≡ false
      → count_by g xs + 1 ≤ count_by f xs
  count_one_fewer f g pick [] y implies found passes fails = absurd (cc)
  count_one_fewer f g pick (x ∷ xs) y implies found passes fails =
      let one = count_by-cons f x xs in
      let two = count_by-cons g x xs in
      elim (pick x) as (λ b. cond b (Some x) (find pick xs) ≡ Some y → count_by g (x ∷ xs) + 1 ≤ count_by f (x ∷ xs)) [
        | true ↦ λ is.
            let same : x ≡ y = cc in
            let first : counted (f x) ≡ 1 = ap (λ z. counted (f z)) same ∙ ap counted passes in
            let second : counted (g x) ≡ 0 = ap (λ z. counted (g z)) same ∙ ap counted fails in
            let rest = count_fewer f g xs implies in
            omega arith
        | false ↦ λ is.
            let rest = count_one_fewer f g pick xs y implies is passes fails in
            let here = fewer_here (g x) (f x) (implies x) in
            omega arith
      ] found

  -- the first item that passes is taken out
  pub count_without : (g test : X → Bool) (xs : List X) (y : X) → find test xs ≡ Some y → count_by g (without_first test xs) + counted (g y) ≡ count_by g xs
  count_without g test [] y found = absurd (cc)
  count_without g test (x ∷ xs) y found =
      let one = count_by-cons g x xs in
      elim (test x) as (λ b. cond b (Some x) (find test xs) ≡ Some y → count_by g (cond b xs (x ∷ without_first test xs)) + counted (g y) ≡ count_by g (x ∷ xs)) [
        | true ↦ λ is. let same : x ≡ y = cc in let here : counted (g x) ≡ counted (g y) = ap (λ z. counted (g z)) same in omega arith
        | false ↦ λ is. let rest = count_without g test xs y is in let two = count_by-cons g x (without_first test xs) in omega arith
      ] found

  -- the best of a list and the others are the items of the list
  pub record Split (P : X → Type 0) (g : X → Bool) (xs : List X) (parts : X × List X) : Type 0 where
    pub best : All P xs → P parts.0
    pub others : All P xs → All P parts.1
    pub count : counted (g parts.0) + count_by g parts.1 ≡ count_by g xs

  pub best_split : (P : X → Type 0) (g : X → Bool) (before : X → X → Bool) (xs : List X) → IfSome (best_and_rest before xs) (Split P g xs)
  best_split P g before [] = tt
  best_split P g before (x ∷ xs) = with_rest (best_and_rest before xs) (best_split P g before xs)
    where
      first : Split P g (x ∷ xs) (x, xs)
      first = record { best = λ each. each 0 x (omega arith); others = λ each k d inside. each (suc k) d (omega arith); count = sym (count_by-cons g x xs) }

      with_rest : (found : Option (X × List X)) → IfSome found (Split P g xs) → Split P g (x ∷ xs) (better_and_rest before x xs found)
      with_rest None split = first
      with_rest (Some later) split = elim (before later.0 x) as (λ b. Split P g (x ∷ xs) (cond b (later.0, x ∷ later.1) (x, xs))) [
        | true ↦ record {
          best = λ each. split.best (λ k d inside. each (suc k) d (omega arith));
          others = λ each. All-append P (x ∷ []) later.1 (All-one P x (each 0 x (omega arith))) (split.others (λ k d inside. each (suc k) d (omega arith)));
          count = let rest = split.count in omega (arith, count_by-cons g x xs, count_by-cons g x later.1);
        }
        | false ↦ first
      ]

-- once the first of the threads that pass is in, one fewer passes
pub count_left : (test : Planned → Bool) (thread : ℕ) (threads : List Planned) → AllPairs (λ (t u : Planned). t.id ≢ u.id) threads
    → IsSomeAnd (find test threads) (λ (t : Planned). t.id ≡ thread)
    → count_by (λ (t : Planned). test t && not (eqb thread t.id)) threads + 1 ≡ count_by test threads
count_left test thread [] distinct next = absurd next
count_left test thread (t ∷ threads) distinct next =
    let left : Planned → Bool = λ x. test x && not (eqb thread x.id) in
    let one = count_by-cons test t threads in
    let two = count_by-cons left t threads in
    elim (test t) as (λ b. test t ≡ b → IsSomeAnd (cond b (Some t) (find test threads)) (λ (x : Planned). x.id ≡ thread)
    → count_by left (t ∷ threads) + 1 ≡ count_by test (t ∷ threads)) [
      | true ↦ λ is named.
          let own : eqb thread t.id ≡ true = grind (arith, nat_tests) in
          let now : counted (test t) ≡ 1 = ap counted is in
          let gone : counted (left t) ≡ 0 = ap (λ b. counted (test t && not b)) own ∙ ap counted (and_false (test t)) in
          let rest : count_by left threads ≡ count_by test threads = count_same left test threads (λ k d inside.
          let x = get_or threads k d in
          let apart : t.id ≢ x.id = distinct 0 (suc k) d (omega arith) (omega arith) in
          let other : eqb thread x.id ≡ false = grind (arith, nat_tests) in
          ap (λ b. test x && not b) other ∙ and_true (test x)) in
          omega arith
      | false ↦ λ is named.
          let rest = count_left test thread threads (λ i j d before inside. distinct (suc i) (suc j) d (omega arith) (omega arith)) named in
          let now : counted (test t) ≡ 0 = ap counted is in
          let gone : counted (left t) ≡ 0 = ap (λ b. counted (b && not (eqb thread t.id))) is in
          omega arith
    ] refl next
  where
    and_true : (b : Bool) → (b && true) ≡ b
    and_true true = refl
    and_true false = refl

    and_false : (b : Bool) → (b && false) ≡ false
    and_false true = refl
    and_false false = refl
