-- Small numbers and small forms.
use Rattle.std.proofs.Common.{◌≡◌, ℕ, zero, suc, ◌<◌, ◌≤◌, eqb, leb, ℤ, pos, negsuc, Bool, true, false, cond, unsigned_abs, refl, sym, ap, ◌∙◌, arith, Option, Some, None, eq-eqb}
use Rattle.std.proofs.lemmas.Int.{ints}
use borrow.Author.Count.{below_more}
use Rattle.std.proofs.lemmas.Bool.{and_parts, and_from, and_left, and_right}
use Rattle.sched_base.specs.declared.limits.TheConstants.{MAX_VARIABLES}
use Rattle.policy_tree.specs.Trees.{ExprTree}
use Rattle.policy_eval.specs.Forms.{coefficient_of, constant_of}
use Rattle.policy_types.specs.Forms.{all_below, has_small_form, is_small}
use Rattle.policy_types.specs.Products.{IsKnown, IsSingle, with_sign}

-- a number is small where its magnitude is
pub small_abs : (x : ℤ) → is_small x ≡ leb (unsigned_abs x) 1099511627776
unfolding is_small
small_abs (pos n) = refl
small_abs (negsuc n) = grind (arith, ints)

pub abs-with_sign : (negative : Bool) (n : ℕ) → unsigned_abs (with_sign negative n) ≡ n
abs-with_sign true n = omega (arith, ints)
abs-with_sign false n = refl

pub small_zero : is_small (pos 0) ≡ true
unfolding is_small
small_zero = refl

pub all_below-true : (test : ℕ → Bool) (n : ℕ) → ((v : ℕ) → v < n → test v ≡ true) → all_below test n ≡ true
all_below-true test zero holds = refl
all_below-true test (suc n) holds =
    and_from (test n) (all_below test n) (holds n (omega arith)) (all_below-true test n (λ v below. holds v (omega arith)))

pub all_below-at : (test : ℕ → Bool) (n v : ℕ) → all_below test n ≡ true → v < n → test v ≡ true
all_below-at test zero v all below = absurd (omega arith)
all_below-at test (suc n) v all below =
    let parts = and_parts (test n) (all_below test n) all in
    below_more (λ v. test v ≡ true) n (λ v less. all_below-at test n v parts.1 less) parts.0 v (omega arith)

pub all_below-false : (test : ℕ → Bool) (n v : ℕ) → v < n → test v ≡ false → all_below test n ≡ false
all_below-false test zero v below fails = absurd (omega arith)
all_below-false test (suc n) v below fails =
    below_more (λ v. test v ≡ false → all_below test (suc n) ≡ false) n
    (λ v less fails. and_right (test n) (all_below test n) (all_below-false test n v less fails))
    (λ fails. and_left (test n) (all_below test n) fails) v (omega arith) fails

module _ (e : ExprTree) where
  pub small_form : is_small (constant_of e) ≡ true → ((v : ℕ) → v ≤ MAX_VARIABLES → is_small (coefficient_of e v) ≡ true) → has_small_form e ≡ true
  unfolding has_small_form
  small_form constant coefficients =
      and_from (is_small (constant_of e)) (all_below (λ v. is_small (coefficient_of e v)) (suc MAX_VARIABLES)) constant
      (all_below-true (λ v. is_small (coefficient_of e v)) (suc MAX_VARIABLES) (λ v below. coefficients v (omega arith)))

  pub small_constant : has_small_form e ≡ true → is_small (constant_of e) ≡ true
  unfolding has_small_form
  small_constant all = (and_parts (is_small (constant_of e)) (all_below (λ v. is_small (coefficient_of e v)) (suc MAX_VARIABLES)) all).0

  pub small_coefficient : has_small_form e ≡ true → (v : ℕ) → v ≤ MAX_VARIABLES → is_small (coefficient_of e v) ≡ true
  unfolding has_small_form
  small_coefficient all v known =
      all_below-at (λ v. is_small (coefficient_of e v)) (suc MAX_VARIABLES) v
      (and_parts (is_small (constant_of e)) (all_below (λ v. is_small (coefficient_of e v)) (suc MAX_VARIABLES)) all).1 (omega arith)

  pub big_constant : is_small (constant_of e) ≡ false → has_small_form e ≡ false
  unfolding has_small_form
  big_constant big = and_left (is_small (constant_of e)) (all_below (λ v. is_small (coefficient_of e v)) (suc MAX_VARIABLES)) big

  pub big_coefficient : (v : ℕ) → v ≤ MAX_VARIABLES → is_small (coefficient_of e v) ≡ false → has_small_form e ≡ false
  unfolding has_small_form
  big_coefficient v known big =
      and_right (is_small (constant_of e)) (all_below (λ v. is_small (coefficient_of e v)) (suc MAX_VARIABLES))
      (all_below-false (λ v. is_small (coefficient_of e v)) (suc MAX_VARIABLES) v (omega arith) big)

-- a number times a variable has a small form where the number is small
pub single_small : (at : Option ℕ) (x : ℤ) (e : ExprTree) → IsKnown at → IsSingle at x e → is_small x ≡ true → has_small_form e ≡ true
single_small None x e known is small =
    small_form e (ap is_small is.constant ∙ small) (λ v below. ap is_small (is.coefficient v) ∙ small_zero)
single_small (Some at) x e known is small =
    small_form e (ap is_small is.constant ∙ small_zero) (λ v below. ap is_small (is.coefficient v) ∙ either (eqb at v))
  where
    either : (b : Bool) → is_small (cond b x (pos 0)) ≡ true
    either true = small
    either false = small_zero

pub single_big : (at : Option ℕ) (x : ℤ) (e : ExprTree) → IsKnown at → IsSingle at x e → is_small x ≡ false → has_small_form e ≡ false
single_big None x e known is big = big_constant e (ap is_small is.constant ∙ big)
single_big (Some at) x e known is big =
    big_coefficient e at known
    (ap is_small (is.coefficient at) ∙ (ap (λ b. is_small (cond b x (pos 0))) (eq-eqb at at refl) ∙ big))

pub single_same : (at : Option ℕ) (x : ℤ) (e : ExprTree) → IsKnown at → IsSingle at x e → (b : Bool) → is_small x ≡ b → b ≡ has_small_form e
single_same at x e known is true small = sym (single_small at x e known is small)
single_same at x e known is false small = sym (single_big at x e known is small)
