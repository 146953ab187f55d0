-- Threads of a trace have different numbers, so that there are no more than numbers; its orders have different rounds.
use Rattle.std.proofs.Common.{◌≡◌, ◌≢◌, ◌∙◌, ℕ, ◌+◌, ◌<◌, ◌≤◌, Bool, true, false, ◌||◌, List, [], ◌∷◌, ◌++◌, length, map, Option, Some, None, refl, ap, sym, arith, eqb}
use Rattle.std.specs.Prelude.{AllPairs, filter_map}
use Rattle.std.specs.List.{IsDistinct, AllByRecursion, cons_option, list_any}
use Rattle.std.proofs.lemmas.Bool.{eqb-false, eqb-true, ne_eqb}
use Rattle.std.proofs.lemmas.List.{get_or-map, length-map}
use Rattle.std.proofs.lemmas.List.Folds.{list_any-append}
use Rattle.std.proofs.lemmas.Map.Keys.{IsDistinct-cons, apart_from_distinct}
use Rattle.std.proofs.lemmas.Map.Steps.{length-le_from_distinct_below}
use Rattle.sched_base.specs.declared.limits.TheConstants.{MAX_THREADS}
use Rattle.policy_tree.specs.Meaning.{Meaning}
use Rattle.round_model.specs.declared.plan.Planned.{Planned}
use Rattle.round_model.specs.Fits.{ThreadFits}
use Rattle.job_trace.specs.declared.trace.TraceLine.{TraceLine}
use Rattle.job_trace.specs.declared.trace.Numbered.{Numbered}
use Rattle.job_trace.specs.Rules.{MayAllFollow, MayFollow, all_gifts, gift, gifts_of, is_repeated, same_gift}
use Rattle.job_trace.proofs.GiftLemmas.{all_gifts-push, same-gift}

or-left : (a b : Bool) → (a || b) ≡ false → a ≡ false
or-left true b e = cc
or-left false b e = refl

-- lines of one kind, which give their numbers
module _ (word : List ℕ) (number_of : TraceLine → Option ℕ)
    (gives : (line : TraceLine) (number : ℕ) → number_of line ≡ Some number → gifts_of line ≡ gift word number [] ∷ []) where
  -- a line has given the number
  abbrev has : List Numbered → ℕ → Bool
  has front number = list_any (same_gift (gift word number [])) (all_gifts front)

  -- the numbers that the lines give, in their order
  abbrev pub numbers : List Numbered → List ℕ
  numbers lines = filter_map (λ (n : Numbered). number_of n.line) lines

  not-yet : (front : List Numbered) (line : TraceLine) (number : ℕ) → number_of line ≡ Some number → MayFollow front line → has front number ≡ false
  not-yet front line number is may =
      or-left _ _ (sym (ap (is_repeated (all_gifts front)) (gives line number is)) ∙ may.once)

  other-number : (front : List Numbered) (line : TraceLine) (i j : ℕ) → has front i ≡ true → number_of line ≡ Some j → MayFollow front line → eqb i j ≡ false
  other-number front line i j given is may =
      ne_eqb i j (λ e. let clash : true ≡ false = sym given ∙ ap (has front) e ∙ not-yet front line j is may in cc)

  given-more : (front : List Numbered) (n : Numbered) (i : ℕ) → has front i ≡ true → has (front ++ n ∷ []) i ≡ true
  given-more front n i given =
      ap (list_any (same_gift (gift word i []))) (all_gifts-push front n)
      ∙ list_any-append (same_gift (gift word i [])) (all_gifts front) (gifts_of n.line)
      ∙ ap (λ b. b || list_any (same_gift (gift word i [])) (gifts_of n.line)) given

  or-true : (b : Bool) → (b || true) ≡ true
  or-true true = refl
  or-true false = refl

  given-here : (front : List Numbered) (n : Numbered) (i : ℕ) → number_of n.line ≡ Some i → has (front ++ n ∷ []) i ≡ true
  given-here front n i is =
      ap (list_any (same_gift (gift word i []))) (all_gifts-push front n)
      ∙ list_any-append (same_gift (gift word i [])) (all_gifts front) (gifts_of n.line)
      ∙ ap (λ gs. has front i || list_any (same_gift (gift word i [])) gs) (gives n.line i is)
      ∙ ap (λ b. has front i || (b || false)) (same-gift word i)
      ∙ or-true (has front i)

  -- later lines give other numbers
  later-others : (front rest : List Numbered) (i : ℕ) → MayAllFollow front rest → has front i ≡ true →
      AllByRecursion (λ j. eqb i j ≡ false) (numbers rest)
  later-others front [] i all given = tt
  later-others front (n ∷ rest) i (spelt, may, all) given =
      by (number_of n.line) refl (later-others (front ++ n ∷ []) rest i all (given-more front n i given))
    where
      by : (o : Option ℕ) → number_of n.line ≡ o → AllByRecursion (λ j. eqb i j ≡ false) (numbers rest) →
          AllByRecursion (λ j. eqb i j ≡ false) (cons_option o (numbers rest))
      by None is later = later
      by (Some j) is later = (other-number front n.line i j given is may, later)

  none-distinct : IsDistinct eqb []
  unfolding IsDistinct
  none-distinct = tt

  -- no two lines give the same number
  pub numbers-distinct : (front rest : List Numbered) → MayAllFollow front rest → IsDistinct eqb (numbers rest)
  numbers-distinct front [] all = none-distinct
  numbers-distinct front (n ∷ rest) (spelt, may, all) =
      by (number_of n.line) refl (numbers-distinct (front ++ n ∷ []) rest all)
    where
      by : (o : Option ℕ) → number_of n.line ≡ o → IsDistinct eqb (numbers rest) → IsDistinct eqb (cons_option o (numbers rest))
      by None is later = later
      by (Some i) is later =
          IsDistinct-cons eqb i (numbers rest) (later-others (front ++ n ∷ []) rest i all (given-here front n i is)) later

abbrev pub id_of : Planned → ℕ
id_of t = t.id

no-zero : (p : Meaning) (cores : ℕ) (threads : List Planned) → AllByRecursion (ThreadFits p cores) threads →
    AllByRecursion (λ i. eqb 0 i ≡ false) (map id_of threads)
no-zero p cores [] fit = tt
no-zero p cores (t ∷ threads) (first, fit) =
    let positive = first.id_positive in
    (ne_eqb 0 t.id (λ e. omega (arith, e)), no-zero p cores threads fit)

id-below : (p : Meaning) (cores : ℕ) (threads : List Planned) → AllByRecursion (ThreadFits p cores) threads →
    (q : ℕ) → list_any (eqb q) (map id_of threads) ≡ true → q < MAX_THREADS + 1
id-below p cores [] fit q among = cc
id-below p cores (t ∷ threads) (first, fit) q among = by (eqb q t.id) refl among (id-below p cores threads fit q)
  where
    by : (b : Bool) → eqb q t.id ≡ b → (b || list_any (eqb q) (map id_of threads)) ≡ true →
        (list_any (eqb q) (map id_of threads) ≡ true → q < MAX_THREADS + 1) → q < MAX_THREADS + 1
    by true e among later = let small = first.id_small in omega (arith, eqb-true q t.id e)
    by false e among later = later among

-- there are no more threads than numbers
pub few-threads : (p : Meaning) (cores : ℕ) (threads : List Planned) → AllByRecursion (ThreadFits p cores) threads →
    IsDistinct eqb (map id_of threads) → length threads ≤ MAX_THREADS
few-threads p cores threads fit apart =
    let room = length-le_from_distinct_below (0 ∷ map id_of threads) (MAX_THREADS + 1)
    (IsDistinct-cons eqb 0 (map id_of threads) (no-zero p cores threads fit) apart) below in
    omega (arith, room, length-map threads id_of)
  where
    below : (q : ℕ) → list_any (eqb q) (0 ∷ map id_of threads) ≡ true → q < MAX_THREADS + 1
    below q among = by (eqb q 0) refl among
      where
        by : (b : Bool) → eqb q 0 ≡ b → (b || list_any (eqb q) (map id_of threads)) ≡ true → q < MAX_THREADS + 1
        by true e among = omega (arith, eqb-true q 0 e)
        by false e among = id-below p cores threads fit q among

-- things of different numbers differ pair by pair
pub apart-pairs : {X : Type 0} (key : X → ℕ) (xs : List X) → IsDistinct eqb (map key xs) → AllPairs (λ x y. key x ≢ key y) xs
apart-pairs key xs apart i j d order inside e =
    let left = get_or-map key xs i d (key d) (omega (arith, order, inside)) in
    let right = get_or-map key xs j d (key d) inside in
    let clash = apart_from_distinct eqb (map key xs) i j (key d) apart order (omega (arith, inside, length-map xs key)) in
    eqb-false _ _ clash (left ∙ e ∙ sym right)
