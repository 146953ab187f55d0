-- Sums of a form and a term.
use Rattle.std.proofs.Common.{◌≡◌, ℕ, zero, suc, ◌<◌, ◌≤◌, eqb, ℤ, pos, neg_ℤ, ◌+ℤ◌, Bool, true, false, not, cond, get_or, set, replicate, length, refl, sym, ap, ◌∙◌, arith, to_z, of_z, FitsSigned, unsigned_abs, Option, Some, None, eq-eqb, ne_eqb}
use Rattle.std.specs.Bool.{beq}
use Rattle.std.specs.Int.{w64}
use Rattle.std.proofs.lemmas.Int.{ints, fits_signed_from_abs, to_z-of_z}
use Rattle.std.proofs.lemmas.Bool.{leb-true, eqb-true, eqb-false}
use Rattle.std.proofs.lemmas.List.{get_or-set_same, get_or-set_other}
use Rattle.sched_base.specs.declared.limits.TheConstants.{MAX_VARIABLES}
use Rattle.policy_tree.specs.Trees.{ExprTree, number}
use Rattle.policy_eval.specs.Forms.{coefficient_of, constant_of}
use Rattle.policy_types.specs.declared.sums.Form.{Form}
use Rattle.policy_types.specs.Expressions.{joined}
use Rattle.policy_types.specs.Forms.{has_form, has_small_form, is_small}
use Rattle.policy_types.specs.Products.{IsForm, IsMoved, IsSingle, coefficient_part, constant_part, with_sign}
use Rattle.policy_types.proofs.Small.{big_coefficient, big_constant, small_abs, small_coefficient, small_constant, small_form, small_zero}

-- a small number fits 64 bits
pub small_fits : (x : ℤ) → is_small x ≡ true → FitsSigned w64 x
small_fits x small =
    let few = leb-true (unsigned_abs x) 1099511627776 (sym (small_abs x) ∙ small) in
    fits_signed_from_abs w64 x (omega arith)

-- the number that is stored is the number
pub stored : (x y : ℤ) → y ≡ x → is_small x ≡ true → to_z w64 (of_z w64 y) ≡ x
stored x y same small = ap (λ z. to_z w64 (of_z w64 z)) same ∙ to_z-of_z w64 x (small_fits x small)

signed-minus : (negative minus : Bool) (n : ℕ) → with_sign (not (beq negative minus)) n ≡ cond minus (neg_ℤ (with_sign negative n)) (with_sign negative n)
signed-minus true true n = omega (arith, ints)
signed-minus true false n = refl
signed-minus false true n = refl
signed-minus false false n = refl

part-neg : (at : Option ℕ) (x : ℤ) (v : ℕ) → coefficient_part at (neg_ℤ x) v ≡ neg_ℤ (coefficient_part at x v)
part-neg None x v = refl
part-neg (Some at) x v = either (eqb at v)
  where
    either : (b : Bool) → cond b (neg_ℤ x) (pos 0) ≡ neg_ℤ (cond b x (pos 0))
    either true = refl
    either false = refl

constant-neg : (at : Option ℕ) (x : ℤ) → constant_part at (neg_ℤ x) ≡ neg_ℤ (constant_part at x)
constant-neg None x = refl
constant-neg (Some at) x = refl

-- a term is added to a sum or taken from it
pub moved_joined : (at : Option ℕ) (negative minus : Bool) (n : ℕ) (l r : ExprTree) → has_form l ≡ true → IsSingle at (with_sign negative n) r → IsMoved at (with_sign (not (beq negative minus)) n) l (joined minus l r)
moved_joined at negative true n l r form right = record {
  form = rw (form, right.form) refl;
  constant = rw (signed-minus negative true n, constant-neg at (with_sign negative n), right.constant) refl;
  coefficient = λ v. rw (signed-minus negative true n, part-neg at (with_sign negative n) v, right.coefficient v) refl;
}
moved_joined at negative false n l r form right = record {
  form = rw (form, right.form) refl;
  constant = rw (signed-minus negative false n, right.constant) refl;
  coefficient = λ v. rw (signed-minus negative false n, right.coefficient v) refl;
}

-- a term is added to nothing
pub moved_single : (at : Option ℕ) (x : ℤ) (e : ExprTree) → IsSingle at x e → IsMoved at x (number (pos 0)) e
moved_single at x e is = record {
  form = is.form;
  constant = is.constant ∙ sym (zero-add (constant_part at x));
  coefficient = λ v. is.coefficient v ∙ sym (zero-add (coefficient_part at x v));
}
  where
    zero-add : (z : ℤ) → pos 0 +ℤ z ≡ z
    zero-add z = omega (arith, ints)

add-zero : (z : ℤ) → z +ℤ pos 0 ≡ z
add-zero z = omega (arith, ints)

-- the constant alone changes
module _ (f : Form) (l e : ExprTree) (x : ℤ) (is : IsForm f l) (moved : IsMoved None x l e) where
  constant_is : f.constant +ℤ x ≡ constant_of e
  constant_is = ap (λ z. z +ℤ x) is.constant ∙ sym moved.constant

  same_coefficient : (v : ℕ) → coefficient_of e v ≡ coefficient_of l v
  same_coefficient v = moved.coefficient v ∙ add-zero (coefficient_of l v)

  pub constant_big : is_small (f.constant +ℤ x) ≡ false → has_small_form e ≡ false
  constant_big big = big_constant e (ap is_small (sym constant_is) ∙ big)

  pub constant_moved : (y : ℤ) → y ≡ f.constant +ℤ x → is_small (f.constant +ℤ x) ≡ true → IsForm (record { constant = to_z w64 (of_z w64 y); coefficients = f.coefficients }) e
  constant_moved y same small = record {
    form = moved.form;
    small = small_form e (ap is_small (sym constant_is) ∙ small)
        (λ v known. ap is_small (same_coefficient v) ∙ small_coefficient l is.small v known);
    constant = stored (f.constant +ℤ x) y same small ∙ constant_is;
    coefficients = λ v known. is.coefficients v known ∙ sym (same_coefficient v);
  }

-- one coefficient changes
module _ (f : Form) (l e : ExprTree) (x : ℤ) (at : ℕ) (is : IsForm f l) (moved : IsMoved (Some at) x l e) (known : at ≤ MAX_VARIABLES) where
  here : get_or f.coefficients at (pos 0) +ℤ x ≡ coefficient_of e at
  here =
      ap (λ z. z +ℤ x) (is.coefficients at known)
      ∙ sym (moved.coefficient at ∙ ap (λ b. coefficient_of l at +ℤ cond b x (pos 0)) (eq-eqb at at refl))

  elsewhere : (v : ℕ) → (at ≡ v → ⊥) → coefficient_of e v ≡ coefficient_of l v
  elsewhere v other =
      moved.coefficient v ∙ (ap (λ b. coefficient_of l v +ℤ cond b x (pos 0)) (ne_eqb at v other) ∙ add-zero (coefficient_of l v))

  same_constant : constant_of e ≡ constant_of l
  same_constant = moved.constant ∙ add-zero (constant_of l)

  pub coefficient_big : is_small (get_or f.coefficients at (pos 0) +ℤ x) ≡ false → has_small_form e ≡ false
  coefficient_big big = big_coefficient e at known (ap is_small (sym here) ∙ big)

  either_small : is_small (get_or f.coefficients at (pos 0) +ℤ x) ≡ true → (v : ℕ) → v ≤ MAX_VARIABLES → (b : Bool) → eqb at v ≡ b → is_small (coefficient_of e v) ≡ true
  either_small small v inside true same =
      ap (λ w. is_small (coefficient_of e w)) (sym (eqb-true at v same)) ∙ (ap is_small (sym here) ∙ small)
  either_small small v inside false apart =
      ap is_small (elsewhere v (eqb-false at v apart)) ∙ small_coefficient l is.small v inside

  either_read : (y : ℤ) → at < length f.coefficients → y ≡ get_or f.coefficients at (pos 0) +ℤ x → (v : ℕ) → v ≤ MAX_VARIABLES → (b : Bool) → eqb at v ≡ b → get_or (set f.coefficients at y) v (pos 0) ≡ coefficient_of e v
  either_read y long same v inside true equal =
      ap (λ w. get_or (set f.coefficients at y) w (pos 0)) (sym (eqb-true at v equal))
      ∙ (get_or-set_same f.coefficients at y (pos 0) long ∙ (same ∙ (here ∙ ap (coefficient_of e) (eqb-true at v equal))))
  either_read y long same v inside false apart =
      get_or-set_other f.coefficients at v y (pos 0) (λ q. eqb-false at v apart (sym q))
      ∙ (is.coefficients v inside ∙ sym (elsewhere v (eqb-false at v apart)))

  pub coefficient_moved : (y : ℤ) → at < length f.coefficients → y ≡ get_or f.coefficients at (pos 0) +ℤ x → is_small (get_or f.coefficients at (pos 0) +ℤ x) ≡ true → IsForm (record { constant = f.constant; coefficients = set f.coefficients at (to_z w64 (of_z w64 y)) }) e
  coefficient_moved y long same small = record {
    form = moved.form;
    small = small_form e (ap is_small same_constant ∙ small_constant l is.small) (λ v inside. either_small small v inside (eqb at v) refl);
    constant = is.constant ∙ sym same_constant;
    coefficients = λ v inside.
        either_read (to_z w64 (of_z w64 y)) long (stored (get_or f.coefficients at (pos 0) +ℤ x) y same small) v inside (eqb at v) refl;
  }

zeros : (n v : ℕ) → get_or (replicate n (pos 0)) v (pos 0) ≡ pos 0
zeros zero v = refl
zeros (suc n) zero = refl
zeros (suc n) (suc v) = zeros n v

-- nothing is the form of 0
pub nothing_form : IsForm (record { constant = pos 0; coefficients = replicate 31 (pos 0) }) (number (pos 0))
nothing_form = record {
  form = refl;
  small = small_form (number (pos 0)) small_zero (λ v known. small_zero);
  constant = refl;
  coefficients = λ v known. zeros 31 v;
}
