-- The best of a list by the keys of an order.
use Rattle.std.proofs.Common.{◌≡◌, zero, suc, ◌<◌, ℤ, Bool, true, false, cond, List, [], ◌∷◌, length, get_or, Option, Some, None, option_map, refl, sym, ap, ◌∙◌, arith, subst, int_lt, ◌<ℤ◌, neg_ℤ, pos, ◌⊎◌, ⊎_elim, inl, inr}
use Rattle.std.specs.declared.cmp.Ordering.{Ordering}
use Rattle.std.specs.declared.cmp.Ordering.TheVariants.{Less, Equal, Greater}
use Rattle.std.specs.Ordering.{MatchOrdering, int_cmp, is_lt, ordering_then}
use Rattle.std.proofs.lemmas.Int.{ints}
use Rattle.std.specs.Cmp.{int_ranks}
use Rattle.policy_tree.specs.Meaning.{KeyTree, greatest_first, least_first, preferring}
use Rattle.policy_eval.specs.Laws.{BestAndRestLaw, BestLaw, IsBest, IsBestAndRest, RestLaw}
use Rattle.policy_eval.specs.Orders.{best_and_rest, best_of, better_and_rest, better_of, key_order, keys_order, precedes, truth_order}
use Rattle.policy_eval.specs.Values.{Assignment, holds, value_of}

module _ {X : Type 0} (before : X → X → Bool) where
  first_of_cond : (b : Bool) (x y : X) (xs ys : List X) → (λ (best : X × List X). best.0) (cond b (x, xs) (y, ys)) ≡ cond b x y
  first_of_cond true x y xs ys = refl
  first_of_cond false x y xs ys = refl

  with_head : (x : X) (xs : List X) (rest : Option (X × List X)) → (better_and_rest before x xs rest).0 ≡ better_of before x (option_map (λ best. best.0) rest)
  with_head x xs None = refl
  with_head x xs (Some later) = first_of_cond (before later.0 x) later.0 x (x ∷ later.1) xs

  pub best_and_rest-best : (xs : List X) → option_map (λ best. best.0) (best_and_rest before xs) ≡ best_of before xs
  best_and_rest-best [] = refl
  best_and_rest-best (x ∷ xs) = ap Some (with_head x xs (best_and_rest before xs) ∙ ap (better_of before x) (best_and_rest-best xs))

pub best_and_rest_law : BestAndRestLaw
best_and_rest_law keys xs = best_and_rest-best (precedes keys) xs

-- the rank of a key: the lesser comes first
rank : KeyTree → Assignment → ℤ
rank (least_first e) a = value_of a e
rank (greatest_first e) a = neg_ℤ (value_of a e)
rank (preferring c) a = cond (holds a c) (pos 0) (pos 1)

int_lt-neg : (x y : ℤ) → int_lt (neg_ℤ x) (neg_ℤ y) ≡ int_lt y x
int_lt-neg x y = grind (arith, ints)

int_cmp-neg : (x y : ℤ) → int_cmp (neg_ℤ x) (neg_ℤ y) ≡ int_cmp y x
int_cmp-neg x y =
    ap (λ b. cond b Less (cond (int_lt (neg_ℤ y) (neg_ℤ x)) Greater Equal)) (int_lt-neg x y)
    ∙ ap (λ b. cond (int_lt y x) Less (cond b Greater Equal)) (int_lt-neg y x)

truth_order-rank : (x y : Bool) → truth_order x y ≡ int_cmp (cond x (pos 0) (pos 1)) (cond y (pos 0) (pos 1))
truth_order-rank true true = refl
truth_order-rank true false = refl
truth_order-rank false true = refl
truth_order-rank false false = refl

key_order-rank : (key : KeyTree) (a b : Assignment) → key_order key a b ≡ int_cmp (rank key a) (rank key b)
unfolding rank
key_order-rank (least_first e) a b = refl
key_order-rank (greatest_first e) a b = sym (int_cmp-neg (value_of a e) (value_of b e))
key_order-rank (preferring c) a b = truth_order-rank (holds a c) (holds b c)

-- the first of two comes strictly before, by its rank or by the keys after
Before : ℤ → ℤ → Bool → Type 0
Before x y rest = (x <ℤ y) ⊎ ((x ≡ y) × (rest ≡ true))

NotBefore : ℤ → ℤ → Bool → Type 0
NotBefore x y rest = (y <ℤ x) ⊎ ((x ≡ y) × (rest ≡ false))

cases_of_true : (x y : ℤ) (o rest : Ordering) → MatchOrdering o (x <ℤ y) (x ≡ y) (y <ℤ x) → is_lt (ordering_then o rest) ≡ true → Before x y (is_lt rest)
unfolding Before
cases_of_true x y Less rest ranks test = inl ranks
cases_of_true x y Equal rest ranks test = inr (ranks, test)
cases_of_true x y Greater rest ranks test = absurd (cc)

cases_of_false : (x y : ℤ) (o rest : Ordering) → MatchOrdering o (x <ℤ y) (x ≡ y) (y <ℤ x) → is_lt (ordering_then o rest) ≡ false → NotBefore x y (is_lt rest)
unfolding NotBefore
cases_of_false x y Less rest ranks test = absurd (cc)
cases_of_false x y Equal rest ranks test = inr (ranks, test)
cases_of_false x y Greater rest ranks test = inl ranks

false_of_cases : (x y : ℤ) (o rest : Ordering) → MatchOrdering o (x <ℤ y) (x ≡ y) (y <ℤ x) → NotBefore x y (is_lt rest) → is_lt (ordering_then o rest) ≡ false
unfolding NotBefore
false_of_cases x y Less rest ranks not = absurd (⊎_elim (λ (h : y <ℤ x). omega (arith, ints)) (λ (h : (x ≡ y) × (is_lt rest ≡ false)). let e = h.0 in omega (arith, ints)) not)
false_of_cases x y Equal rest ranks not = ⊎_elim (λ (h : y <ℤ x). absurd (omega (arith, ints))) (λ (h : (x ≡ y) × (is_lt rest ≡ false)). h.1) not
false_of_cases x y Greater rest ranks not = refl

-- the keys of an order by the first key's ranks and the keys after
keys_order-cons : (key : KeyTree) (keys : List KeyTree) (a b : Assignment) → keys_order (key ∷ keys) a b ≡ ordering_then (int_cmp (rank key a) (rank key b)) (keys_order keys a b)
keys_order-cons key keys a b = ap (λ o. ordering_then o (keys_order keys a b)) (key_order-rank key a b)

-- of two at most one comes strictly before the other
pub precedes-asymmetric : (keys : List KeyTree) (a b : Assignment) → precedes keys a b ≡ true → precedes keys b a ≡ false
unfolding Before NotBefore
precedes-asymmetric [] a b test = refl
precedes-asymmetric (key ∷ keys) a b test =
    let x = rank key a in let y = rank key b in
    let first = cases_of_true x y (int_cmp x y) (keys_order keys a b) (int_ranks x y) (ap is_lt (sym (keys_order-cons key keys a b)) ∙ test) in
    ap is_lt (keys_order-cons key keys b a) ∙ false_of_cases y x (int_cmp y x) (keys_order keys b a) (int_ranks y x) (⊎_elim
    (λ (h : x <ℤ y). inl h)
    (λ (h : (x ≡ y) × (is_lt (keys_order keys a b) ≡ true)). inr (sym h.0, precedes-asymmetric keys a b h.1))
    first)

pub precedes-irreflexive : (keys : List KeyTree) (a : Assignment) → precedes keys a a ≡ false
precedes-irreflexive keys a = only (precedes keys a a) (precedes-asymmetric keys a a)
  where
    only : (b : Bool) → (b ≡ true → b ≡ false) → b ≡ false
    only true either = either refl
    only false either = refl

-- where the first doesn't come before the second nor the second before the third, the first doesn't before the third
pub precedes-negative : (keys : List KeyTree) (a b c : Assignment) → precedes keys a b ≡ false → precedes keys b c ≡ false → precedes keys a c ≡ false
unfolding NotBefore
precedes-negative [] a b c first second = refl
precedes-negative (key ∷ keys) a b c first second =
    let x = rank key a in let y = rank key b in let z = rank key c in
    let ab = cases_of_false x y (int_cmp x y) (keys_order keys a b) (int_ranks x y) (ap is_lt (sym (keys_order-cons key keys a b)) ∙ first) in
    let bc = cases_of_false y z (int_cmp y z) (keys_order keys b c) (int_ranks y z) (ap is_lt (sym (keys_order-cons key keys b c)) ∙ second) in
    ap is_lt (keys_order-cons key keys a c) ∙ false_of_cases x z (int_cmp x z) (keys_order keys a c) (int_ranks x z) (⊎_elim
    (λ (h : y <ℤ x). inl (⊎_elim (λ (k : z <ℤ y). omega (arith, ints)) (λ (k : (y ≡ z) × (is_lt (keys_order keys b c) ≡ false)). let e = k.0 in omega (arith, ints)) bc))
    (λ (h : (x ≡ y) × (is_lt (keys_order keys a b) ≡ false)). ⊎_elim
    (λ (k : z <ℤ y). let e = h.0 in inl (omega (arith, ints)))
    (λ (k : (y ≡ z) × (is_lt (keys_order keys b c) ≡ false)). inr (h.0 ∙ k.0, precedes-negative keys a b c h.1 k.1))
    bc)
    ab)

-- one item in front of a list whose best is known
module _ (keys : List KeyTree) (x : Assignment) (xs : List Assignment) (y : Assignment) (is : IsBest keys xs y) where
  later_best : precedes keys y x ≡ true → IsBest keys (x ∷ xs) y
  later_best test = record {
    at = suc is.at;
    inside = omega (arith, is.inside);
    is = is.is;
    none_before = λ k. elim k as (λ j. (d : Assignment) → j < suc (length xs) → precedes keys (get_or (x ∷ xs) j d) y ≡ false) [
      | zero ↦ λ d inside. precedes-asymmetric keys y x test
      | suc j ↦ λ d inside. is.none_before j d (omega arith)
    ];
    earliest = λ k. elim k as (λ j. (d : Assignment) → j < suc is.at → precedes keys y (get_or (x ∷ xs) j d) ≡ true) [
      | zero ↦ λ d inside. test
      | suc j ↦ λ d inside. is.earliest j d (omega arith)
    ];
  }

  head_best : precedes keys y x ≡ false → IsBest keys (x ∷ xs) x
  head_best test = record {
    at = 0;
    inside = omega arith;
    is = refl;
    none_before = λ k. elim k as (λ j. (d : Assignment) → j < suc (length xs) → precedes keys (get_or (x ∷ xs) j d) x ≡ false) [
      | zero ↦ λ d inside. precedes-irreflexive keys x
      | suc j ↦ λ d inside. precedes-negative keys (get_or xs j d) y x (is.none_before j d (omega arith)) test
    ];
    earliest = λ k d inside. absurd (omega arith);
  }

alone_best : (keys : List KeyTree) (x : Assignment) → IsBest keys (x ∷ []) x
alone_best keys x = record {
  at = 0;
  inside = omega arith;
  is = refl;
  none_before = λ k. elim k as (λ j. (d : Assignment) → j < 1 → precedes keys (get_or (x ∷ []) j d) x ≡ false) [
    | zero ↦ λ d inside. precedes-irreflexive keys x
    | suc j ↦ λ d inside. absurd (omega arith)
  ];
  earliest = λ k d inside. absurd (omega arith);
}

-- what stands at the front against the best of the others
front_best : (keys : List KeyTree) (x : Assignment) (xs : List Assignment) (rest : Option Assignment) → best_of (precedes keys) xs ≡ rest
    → ((y : Assignment) → rest ≡ Some y → IsBest keys xs y) → IsBest keys (x ∷ xs) (better_of (precedes keys) x rest)
front_best keys x [] rest is others = subst (λ (o : Option Assignment). IsBest keys (x ∷ []) (better_of (precedes keys) x o)) is (alone_best keys x)
front_best keys x (z ∷ zs) None is others = absurd (cc)
front_best keys x (z ∷ zs) (Some y) is others = chosen (precedes keys y x) refl
  where
    chosen : (b : Bool) → precedes keys y x ≡ b → IsBest keys (x ∷ z ∷ zs) (cond (precedes keys y x) y x)
    chosen true test = subst (λ b. IsBest keys (x ∷ z ∷ zs) (cond b y x)) (sym test) (later_best keys x (z ∷ zs) y (others y refl) test)
    chosen false test = subst (λ b. IsBest keys (x ∷ z ∷ zs) (cond b y x)) (sym test) (head_best keys x (z ∷ zs) y (others y refl) test)

pub best_law : BestLaw
best_law keys [] best is = absurd (cc)
best_law keys (x ∷ xs) best is =
    let same : better_of (precedes keys) x (best_of (precedes keys) xs) ≡ best = cc in
    subst (IsBest keys (x ∷ xs)) same (front_best keys x xs (best_of (precedes keys) xs) refl (λ y found. best_law keys xs y found))

-- the item in front, and the others behind it
module _ (keys : List KeyTree) (x : Assignment) (xs : List Assignment) where
  later_rest : (y : Assignment) (others : List Assignment) → IsBestAndRest keys xs y others → precedes keys y x ≡ true → IsBestAndRest keys (x ∷ xs) y (x ∷ others)
  unfolding later_best
  later_rest y others is test = record { first = later_best keys x xs y is.first test; rest = ap (λ (list : List Assignment). x ∷ list) is.rest }

  head_rest : (y : Assignment) (others : List Assignment) → IsBestAndRest keys xs y others → precedes keys y x ≡ false → IsBestAndRest keys (x ∷ xs) x xs
  unfolding head_best
  head_rest y others is test = record { first = head_best keys x xs y is.first test; rest = refl }

alone_rest : (keys : List KeyTree) (x : Assignment) → IsBestAndRest keys (x ∷ []) x []
unfolding alone_best
alone_rest keys x = record { first = alone_best keys x; rest = refl }

front_rest : (keys : List KeyTree) (x : Assignment) (xs : List Assignment) (found : Option (Assignment × List Assignment)) → best_and_rest (precedes keys) xs ≡ found
    → ((y : Assignment) (others : List Assignment) → found ≡ Some (y, others) → IsBestAndRest keys xs y others)
    → let pair : Assignment × List Assignment = better_and_rest (precedes keys) x xs found in IsBestAndRest keys (x ∷ xs) pair.0 pair.1
front_rest keys x [] None is others = alone_rest keys x
front_rest keys x [] (Some later) is others = absurd (cc)
front_rest keys x (z ∷ zs) None is others = absurd (cc)
front_rest keys x (z ∷ zs) (Some later) is others =
    elim (precedes keys later.0 x) as (λ b. precedes keys later.0 x ≡ b
    → let pair : Assignment × List Assignment = cond b (later.0, x ∷ later.1) (x, z ∷ zs) in IsBestAndRest keys (x ∷ z ∷ zs) pair.0 pair.1) [
      | true ↦ λ test. later_rest keys x (z ∷ zs) later.0 later.1 (others later.0 later.1 refl) test
      | false ↦ λ test. head_rest keys x (z ∷ zs) later.0 later.1 (others later.0 later.1 refl) test
    ] refl

pub rest_law : RestLaw
rest_law keys [] best others is = absurd (cc)
rest_law keys (x ∷ xs) best others is =
    let pair : Assignment × List Assignment = better_and_rest (precedes keys) x xs (best_and_rest (precedes keys) xs) in
    let same : pair ≡ (best, others) = cc in
    subst (λ (found : Assignment × List Assignment). IsBestAndRest keys (x ∷ xs) found.0 found.1) same
    (front_rest keys x xs (best_and_rest (precedes keys) xs) refl (λ y rest found. rest_law keys xs y rest found))
