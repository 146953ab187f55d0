-- What a linear expression is worth to the filter, where all threads weigh the same: so much a thread of the thief, so
-- much a thread of the victim, and what stays.
use Rattle.std.proofs.Common.{◌≡◌, ℕ, suc, ◌+◌, ◌*◌, ◌<◌, ◌≤◌, ltb, leb, ℤ, pos, negsuc, ◌+ℤ◌, ◌-ℤ◌, ◌*ℤ◌, false, cond, List, [], ◌∷◌, ◌++◌, length, refl, sym, ap, ap₂, ◌∙◌, arith, append_assoc, length-append, ne_eqb, le-leb, lt-ltb, true≢false}
use Rattle.std.proofs.Math.IntN.{*ℤ-zero, zero-*ℤ}
use Rattle.std.proofs.lemmas.Int.{ints}
use Rattle.policy_tree.specs.declared.variables.TheConstants.{OTHER_ATTRIBUTES, SELF_ATTRIBUTES, THREAD_ATTRIBUTES}
use Rattle.policy_tree.specs.Trees.{ExprTree, number, variable, negation, plus, minus, times}
use Rattle.policy_eval.specs.declared.env.CoreValues.{CoreValues}
use Rattle.policy_eval.specs.Forms.{IsLinear, coefficient_of, constant_of}
use Rattle.policy_eval.specs.Sights.{no_attributes, pair_values}
use Rattle.policy_eval.specs.Values.{Assignment, value_of}
use Rattle.policy_eval.proofs.Forms.{value_of-form, variable_part, weighted, weighted_minus}
use Rattle.policy_eval.proofs.Products.{+ℤ-*ℤ, *ℤ_assoc}
use Rattle.obligations.proofs.Tests.{or_false, true_and}
use Rattle.rest_bounds.specs.Following.{asks_attributes, asks_own, asks_within, growth, nobody, own_more, victim_more, with_load}

-- a variable that doesn't stand in the expression has no coefficient
not_asked : (from to : ℕ) (e : ExprTree) → asks_within from to e ≡ false → (v : ℕ) → from ≤ v → v < to → coefficient_of e v ≡ pos 0
not_asked from to (number n) none v low high = refl
not_asked from to (variable at) none v low high =
    ap (λ b. cond b (pos 1) (pos 0))
    (ne_eqb at v (λ same. true≢false (sym (true_and (leb from at) (ltb at to) (le-leb from at (omega arith)) (lt-ltb at to (omega arith))) ∙ none)))
not_asked from to (negation e) none v low high = let inner = not_asked from to e none v low high in omega (arith, ints)
not_asked from to (plus l r) none v low high =
    let parts = or_false (asks_within from to l) (asks_within from to r) none in
    ap₂ (λ x y. x +ℤ y) (not_asked from to l parts.0 v low high) (not_asked from to r parts.1 v low high)
not_asked from to (minus l r) none v low high =
    let parts = or_false (asks_within from to l) (asks_within from to r) none in
    ap₂ (λ x y. x -ℤ y) (not_asked from to l parts.0 v low high) (not_asked from to r parts.1 v low high)
not_asked from to (times l r) none v low high =
    let parts = or_false (asks_within from to l) (asks_within from to r) none in
    ap₂ (λ x y. constant_of l *ℤ y +ℤ x *ℤ constant_of r) (not_asked from to l parts.0 v low high) (not_asked from to r parts.1 v low high)
    ∙ ap₂ (λ x y. x +ℤ y) (*ℤ-zero (constant_of l)) (zero-*ℤ (constant_of r))

-- values without a coefficient add nothing
weighted_skip : (c : ℕ → ℤ) (i : ℕ) (xs ys : List ℤ) → ((v : ℕ) → i ≤ v → v < i + length xs → c v ≡ pos 0) → weighted c i (xs ++ ys) ≡ weighted c (i + length xs) ys
weighted_skip c i [] ys none = ap (λ k. weighted c k ys) (omega arith)
weighted_skip c i (x ∷ xs) ys none =
    let rest = weighted_skip c (suc i) xs ys (λ v low high. none v (omega arith) (omega arith)) in
    let here : c i *ℤ x ≡ pos 0 = ap (λ z. z *ℤ x) (none i (omega arith) (omega arith)) ∙ zero-*ℤ x in
    let place : weighted c (suc i + length xs) ys ≡ weighted c (i + suc (length xs)) ys = ap (λ k. weighted c k ys) (omega arith) in
    omega (arith, ints)

-- the value is that of the linear form
pub HasForm : ExprTree → Type 0
HasForm e = (xs : Assignment) → value_of xs e ≡ constant_of e +ℤ variable_part e xs

pub minus_form : (l r : ExprTree) → IsLinear l → IsLinear r → HasForm (minus l r)
unfolding HasForm
minus_form l r left right xs =
    let first = value_of-form l left xs in let second = value_of-form r right xs in
    let split = weighted_minus (coefficient_of l) (coefficient_of r) 0 xs in
    omega (arith, ints)

-- a load counts as so many threads of that weight
times_load : (x : ℤ) (n w load : ℕ) → load ≡ n * w → x *ℤ pos load ≡ (x *ℤ pos w) *ℤ pos n
times_load x n w load is =
    let turned : load ≡ w * n = omega arith in
    ap (λ k. x *ℤ pos k) turned ∙ sym (*ℤ_assoc x (pos w) (pos n))

one_times : (x : ℤ) → x *ℤ pos 1 ≡ x
one_times (pos n) = omega (arith, ints)
one_times (negsuc n) = omega (arith, ints)

module _ (e : ExprTree) (form : HasForm e) (w : ℕ) where
  c : ℕ → ℤ
  c = coefficient_of e

  pub own_slope : ℤ
  own_slope = c 0 +ℤ c 1 *ℤ pos w

  pub victim_slope : ℤ
  victim_slope = c 2 +ℤ c 3 *ℤ pos w

  -- what the attributes add
  tail : CoreValues → CoreValues → ℤ
  tail own victim = weighted c 6 ((own.consts ++ victim.consts) ++ no_attributes)

  -- what the threads add
  abbrev pub threads : CoreValues → CoreValues → ℤ
  threads own victim = own_slope *ℤ pos own.nr +ℤ victim_slope *ℤ pos victim.nr

  -- and what stays without them
  pub rest : CoreValues → CoreValues → ℤ
  rest own victim = constant_of e +ℤ ((c 4 *ℤ pos 1 +ℤ c 5 *ℤ pos 0) +ℤ tail own victim)

  pub pair_value : (own victim : CoreValues) → own.load ≡ own.nr * w → victim.load ≡ victim.nr * w
      → value_of (pair_values own victim) e ≡ threads own victim +ℤ rest own victim
  unfolding HasForm c own_slope victim_slope tail rest pair_values
  pair_value own victim own_weighs victim_weighs =
      let whole : value_of (pair_values own victim) e
      ≡ constant_of e +ℤ (c 0 *ℤ pos own.nr +ℤ (c 1 *ℤ pos own.load +ℤ (c 2 *ℤ pos victim.nr +ℤ (c 3 *ℤ pos victim.load +ℤ (c 4 *ℤ pos 1 +ℤ (c 5 *ℤ pos 0 +ℤ tail own victim))))))
      = form (pair_values own victim) in
      let own_load = times_load (c 1) own.nr w own.load own_weighs in
      let victim_load = times_load (c 3) victim.nr w victim.load victim_weighs in
      let own_split = +ℤ-*ℤ (c 0) (c 1 *ℤ pos w) (pos own.nr) in
      let victim_split = +ℤ-*ℤ (c 2) (c 3 *ℤ pos w) (pos victim.nr) in
      omega (arith, ints)

  value_of_nobody : value_of nobody e ≡ rest (with_load 0 0) (with_load 0 0)
  value_of_nobody =
      let value = pair_value (with_load 0 0) (with_load 0 0) (omega arith) (omega arith) in
      let own = *ℤ-zero own_slope in let victim = *ℤ-zero victim_slope in
      omega (arith, ints)

  pub growth_own : growth (own_more w) e ≡ own_slope
  unfolding rest tail
  growth_own =
      let value = pair_value (with_load 1 w) (with_load 0 0) (omega arith) (omega arith) in
      let none = value_of_nobody in
      let own = one_times own_slope in let victim = *ℤ-zero victim_slope in
      omega (arith, ints)

  pub growth_victim : growth (victim_more w) e ≡ victim_slope
  unfolding rest tail
  growth_victim =
      let value = pair_value (with_load 0 0) (with_load 1 w) (omega arith) (omega arith) in
      let none = value_of_nobody in
      let own = *ℤ-zero own_slope in let victim = one_times victim_slope in
      omega (arith, ints)

  -- where the thief's attributes don't stand in it, others may take their place
  pub same_rest : asks_own e ≡ false → (own victim lower seen : CoreValues) → length own.consts ≡ 8 → length lower.consts ≡ 8 → seen.consts ≡ victim.consts
      → rest lower seen ≡ rest own victim
  unfolding c tail rest
  same_rest none own victim lower seen long too alike =
      let skip = λ (first second : CoreValues) (eight : length first.consts ≡ 8).
      ap (weighted c 6) (append_assoc first.consts second.consts no_attributes)
      ∙ (weighted_skip c 6 first.consts (second.consts ++ no_attributes) (λ v low high. not_asked SELF_ATTRIBUTES OTHER_ATTRIBUTES e none v low (omega arith))
      ∙ ap (λ k. weighted c (6 + k) (second.consts ++ no_attributes)) eight) in
      ap (λ z. constant_of e +ℤ ((c 4 *ℤ pos 1 +ℤ c 5 *ℤ pos 0) +ℤ z))
      (skip lower seen too ∙ (ap (λ xs. weighted c 14 (xs ++ no_attributes)) alike ∙ sym (skip own victim long)))

  -- where no attributes do, it stays what it is without any
  pub no_rest : asks_attributes e ≡ false → (own victim : CoreValues) → length own.consts ≡ 8 → length victim.consts ≡ 8 → rest own victim ≡ value_of nobody e
  unfolding c tail rest
  no_rest none own victim long too =
      let skip = λ (first second : CoreValues) (eight : length (first.consts ++ second.consts) ≡ 16).
      weighted_skip c 6 (first.consts ++ second.consts) no_attributes (λ v low high. not_asked SELF_ATTRIBUTES THREAD_ATTRIBUTES e none v low (omega arith))
      ∙ ap (λ k. weighted c (6 + k) no_attributes) eight in
      ap (λ z. constant_of e +ℤ ((c 4 *ℤ pos 1 +ℤ c 5 *ℤ pos 0) +ℤ z))
      (skip own victim (length-append own.consts victim.consts ∙ ap₂ (λ n k. n + k) long too) ∙ sym (skip (with_load 0 0) (with_load 0 0) refl)) ∙ sym value_of_nobody
