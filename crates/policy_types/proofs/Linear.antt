-- Expressions that break no rule are linear, and refer to what they may.
use Rattle.std.proofs.Common.{◌≡◌, ℕ, ◌<◌, ◌≤◌, leb, ℤ, pos, neg_ℤ, ◌≤ℤ◌, int_le, Bool, true, false, cond, ◌&&◌, [], ◌∷◌, refl, ap, ◌∙◌, arith, if◌then◌else◌}
use Rattle.std.proofs.Math.IntN.{*ℤ-zero, zero-*ℤ}
use Rattle.std.proofs.lemmas.Int.{ints}
use Rattle.std.proofs.lemmas.Bool.{and_parts, le-leb, leb-true, ne_eqb}
use Rattle.std.proofs.lemmas.Bool.Decides.{leb_tells}
use Rattle.sched_base.specs.declared.limits.TheConstants.{MAX_COEFFICIENT, MAX_VARIABLES}
use Rattle.policy_tree.specs.Trees.{ExprTree, number, variable, negation, plus, minus, times}
use Rattle.policy_eval.specs.Forms.{HasSmallForm, IsLinear, IsSmall, RefersTo, coefficient_of, constant_of, has_reference}
use Rattle.policy_types.specs.Expressions.{big_faults, joined, product_faults}
use Rattle.policy_types.specs.Forms.{has_form, has_small_form, is_small}
use Rattle.policy_types.specs.declared.fault.TypeFault.TheVariants.{Big, NotLinear}
use Rattle.policy_types.proofs.Firsts.{where_not}
use Rattle.policy_types.proofs.Small.{small_coefficient, small_constant, small_zero}

abbrev pub is_known : ℕ → Bool
is_known at = leb at MAX_VARIABLES

le_of : (a b : ℤ) → int_le a b ≡ true → a ≤ℤ b
le_of a b e = grind (arith, ints)

pub small_is : (x : ℤ) → is_small x ≡ true → IsSmall x
unfolding is_small
small_is x small =
    let parts = and_parts (int_le (neg_ℤ MAX_COEFFICIENT) x) (int_le x MAX_COEFFICIENT) small in
    record { above = le_of (neg_ℤ MAX_COEFFICIENT) x parts.0; below = le_of x MAX_COEFFICIENT parts.1 }

-- what isn't known has no coefficient
coefficient_past : (e : ExprTree) → RefersTo is_known e → (v : ℕ) → MAX_VARIABLES < v → coefficient_of e v ≡ pos 0
coefficient_past (number n) known v past = refl
coefficient_past (variable at) known v past =
    let below : at ≤ MAX_VARIABLES = leb-true at MAX_VARIABLES known in
    ap (λ b. cond b (pos 1) (pos 0)) (ne_eqb at v (λ e. absurd (omega arith)))
coefficient_past (negation e) known v past = ap neg_ℤ (coefficient_past e known v past)
coefficient_past (plus l r) known v past = rw (coefficient_past l known.0 v past, coefficient_past r known.1 v past) refl
coefficient_past (minus l r) known v past = rw (coefficient_past l known.0 v past, coefficient_past r known.1 v past) refl
coefficient_past (times l r) known v past =
    rw (coefficient_past l known.0 v past, coefficient_past r known.1 v past, *ℤ-zero (constant_of l), zero-*ℤ (constant_of r)) refl

form_small : (e : ExprTree) → RefersTo is_known e → has_small_form e ≡ true → HasSmallForm e
form_small e known small = record {
  constant = small_is (constant_of e) (small_constant e small);
  coefficients = λ v. small_is (coefficient_of e v) (either v (leb v MAX_VARIABLES) refl);
}
  where
    either : (v : ℕ) (b : Bool) → leb v MAX_VARIABLES ≡ b → is_small (coefficient_of e v) ≡ true
    either v true inside = small_coefficient e small v (leb-true v MAX_VARIABLES inside)
    either v false past = ap is_small (coefficient_past e known v (grind (arith, leb_tells))) ∙ small_zero

-- an expression without fault, whose variables pass the test
pub record IsSound (may : ℕ → Bool) (e : ExprTree) : Type 0 where
  pub linear : IsLinear e
  pub form : has_form e ≡ true
  pub known : RefersTo is_known e
  pub allowed : RefersTo may e

big_none : (at : ℕ) (e : ExprTree) → has_form e ≡ true → big_faults at e ≡ [] → has_small_form e ≡ true
big_none at e form none = where_not (has_small_form e) (Big at) (rw form at none)

module _ (may : ℕ → Bool) where
  pub sound_number : (value : ℕ) → is_small (pos value) ≡ true → IsSound may (number (pos value))
  sound_number value small = record { linear = small_is (pos value) small; form = refl; known = tt; allowed = tt }

  pub sound_variable : (at : ℕ) → at ≤ MAX_VARIABLES → may at ≡ true → IsSound may (variable at)
  sound_variable at inside allowed = record { linear = tt; form = refl; known = le-leb at MAX_VARIABLES inside; allowed = allowed }

  pub sound_negation : (at : ℕ) (e : ExprTree) → IsSound may e → big_faults at (negation e) ≡ [] → IsSound may (negation e)
  sound_negation at e is none = record {
    linear = (is.linear, form_small (negation e) is.known (big_none at (negation e) is.form none));
    form = is.form;
    known = is.known;
    allowed = is.allowed;
  }

  pub sound_joined : (at : ℕ) (minus : Bool) (l r : ExprTree) → IsSound may l → IsSound may r → big_faults at (joined minus l r) ≡ [] → IsSound may (joined minus l r)
  sound_joined at true l r left right none = record {
    linear = (left.linear, right.linear, form_small (minus l r) (left.known, right.known) (big_none at (minus l r) (rw (left.form, right.form) refl) none));
    form = rw (left.form, right.form) refl;
    known = (left.known, right.known);
    allowed = (left.allowed, right.allowed);
  }
  sound_joined at false l r left right none = record {
    linear = (left.linear, right.linear, form_small (plus l r) (left.known, right.known) (big_none at (plus l r) (rw (left.form, right.form) refl) none));
    form = rw (left.form, right.form) refl;
    known = (left.known, right.known);
    allowed = (left.allowed, right.allowed);
  }

  pub sound_times : (at : ℕ) (l r : ExprTree) → IsSound may l → IsSound may r → product_faults at l r ≡ [] → IsSound may (times l r)
  sound_times at l r left right none =
      let apart = scaled (has_reference l && has_reference r) none in
      let form : has_form (times l r) ≡ true = rw (left.form, right.form, apart.0) refl in
      record {
        linear = (left.linear, right.linear, apart.0, form_small (times l r) (left.known, right.known) (big_none at (times l r) form apart.1));
        form = form;
        known = (left.known, right.known);
        allowed = (left.allowed, right.allowed);
      }
    where
      scaled : (b : Bool) → (if b then NotLinear at ∷ [] else big_faults at (times l r)) ≡ [] → (b ≡ false) × (big_faults at (times l r) ≡ [])
      scaled true e = absurd (cc)
      scaled false e = (refl, e)
