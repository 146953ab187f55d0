-- The numbers of the linear form of a comparison fit a row.
use Rattle.std.proofs.Common.{ℕ, ◌^◌, ◌<◌, ◌≤◌, eqb, ℤ, pos, ◌+ℤ◌, ◌-ℤ◌, ◌*ℤ◌, neg_ℤ, unsigned_abs, Bool, true, false, cond, sym, ap, ◌∙◌, subst, arith}
use Rattle.std.proofs.lemmas.Int.{ints, unsigned_abs-mul}
use Rattle.std.proofs.lemmas.Nat.{mul-le}
use Rattle.policy_tree.specs.declared.typed.Load.{Load}
use Rattle.policy_tree.specs.Trees.{ExprTree, number, variable, negation, plus, minus, times}
use Rattle.policy_eval.specs.Forms.{HasSmallForm, IsLinear, IsSmall, coefficient_of, constant_of}
use Rattle.policy_eval.specs.Ranges.{least_weight}
use Rattle.policy_eval.specs.Resolved.{IsWeightRange}
use Rattle.obligations.specs.declared.forms.Form.{Form}
use Rattle.obligations.specs.CodeForms.{FitsRow, IsDifferenceForm, IsForm, form_seen}
use Rattle.obligations.specs.Forms.{LinearForm, at_weight, form_of, opposite, plain_form, weighs_one}

unit_small : (b : Bool) → IsSmall (cond b (pos 1) (pos 0))
unit_small true = record { above = omega (arith, ints); below = omega (arith, ints) }
unit_small false = record { above = omega (arith, ints); below = omega (arith, ints) }

-- a linear expression has a small form
pub small_form : (e : ExprTree) → IsLinear e → HasSmallForm e
small_form (number n) linear = record { constant = linear; coefficients = λ v. unit_small false }
small_form (variable at) linear = record { constant = unit_small false; coefficients = λ v. unit_small (eqb at v) }
small_form (negation e) linear = linear.1
small_form (plus l r) linear = linear.2
small_form (minus l r) linear = linear.2
small_form (times l r) linear = linear.3

difference_small : (x y : ℤ) → IsSmall x → IsSmall y → unsigned_abs (x -ℤ y) ≤ 2 ^ 41
difference_small x y one other =
    let a = one.above in let b = one.below in let c = other.above in let d = other.below in omega (arith, ints)

-- the form of a difference
pub plain-small : (l r : ExprTree) → IsLinear l → IsLinear r → IsDifferenceForm (plain_form (minus l r))
plain-small l r left right = record {
  constant = difference_small (constant_of l) (constant_of r) (small_form l left).constant (small_form r right).constant;
  coefficients = λ v lt. difference_small (coefficient_of l v) (coefficient_of r v) ((small_form l left).coefficients v) ((small_form r right).coefficients v);
}

difference-fits : (d : LinearForm) → IsDifferenceForm d → FitsRow d
difference-fits d small = record {
  constant = let bound = small.constant in omega arith;
  coefficients = λ v lt. let bound = small.coefficients v lt in omega arith;
}

pub at_weight-fits : (w : ℕ) (d : LinearForm) → w ≤ 2 ^ 20 → IsDifferenceForm d → FitsRow (at_weight w d)
at_weight-fits w d light small = record {
  constant =
      let constant = small.constant in let coefficient = small.coefficients 4 (omega arith) in
      let product = unsigned_abs-mul (d.coefficient 4) (pos w) in let bound = mul-le (unsigned_abs (d.coefficient 4)) w (2 ^ 41) (2 ^ 20) coefficient light in
      omega (arith, ints);
  coefficients = λ v lt. or_none (eqb v 4) (d.coefficient v) (small.coefficients v lt);
}
  where
    or_none : (b : Bool) (x : ℤ) → unsigned_abs x ≤ 2 ^ 41 → unsigned_abs (cond b (pos 0) x) ≤ 2 ^ 42
    or_none true x small = omega (arith, ints)
    or_none false x small = omega arith

-- the form of a comparison, and its opposite
pub form_of-fits : (load : Load) → IsWeightRange load → (l r : ExprTree) → IsLinear l → IsLinear r → FitsRow (form_of load (minus l r))
form_of-fits load weights l r left right = by (weighs_one load)
  where
    light : least_weight load ≤ 2 ^ 20
    light = let ordered = weights.ordered in let small = weights.small in omega arith

    by : (b : Bool) → FitsRow (cond b (at_weight (least_weight load) (plain_form (minus l r))) (plain_form (minus l r)))
    by true = at_weight-fits (least_weight load) (plain_form (minus l r)) light (plain-small l r left right)
    by false = difference-fits (plain_form (minus l r)) (plain-small l r left right)

pub opposite-fits : (d : LinearForm) → FitsRow d → FitsRow (opposite d)
opposite-fits d fits = record {
  constant = let small = fits.constant in omega (arith, ints);
  coefficients = λ v lt. let small = fits.coefficients v lt in omega (arith, ints);
}

-- what the code has fits where the form does
pub seen-fits : (form : Form) (d : LinearForm) → IsForm form d → FitsRow d → FitsRow (form_seen form)
seen-fits form d is fits = record {
  constant = subst (λ x. unsigned_abs x < 2 ^ 62) (sym is.constant) fits.constant;
  coefficients = λ v lt. subst (λ x. unsigned_abs x ≤ 2 ^ 42) (sym (is.coefficients v lt)) (fits.coefficients v lt);
}

pub seen-small : (form : Form) (d : LinearForm) → IsForm form d → IsDifferenceForm d → IsDifferenceForm (form_seen form)
seen-small form d is small = record {
  constant = subst (λ x. unsigned_abs x ≤ 2 ^ 41) (sym is.constant) small.constant;
  coefficients = λ v lt. subst (λ x. unsigned_abs x ≤ 2 ^ 41) (sym (is.coefficients v lt)) (small.coefficients v lt);
}

-- a number in place of the weight, in what the code has
pub at_weight-is : (form result : Form) (d : LinearForm) (w : ℕ) → IsForm form d → IsForm result (at_weight w (form_seen form)) → IsForm result (at_weight w d)
at_weight-is form result d w is at = record {
  constant = at.constant ∙ (ap (λ k. k +ℤ (form_seen form).coefficient 4 *ℤ pos w) is.constant ∙ ap (λ c. d.constant +ℤ c *ℤ pos w) (is.coefficients 4 (omega arith)));
  coefficients = λ v lt. at.coefficients v lt ∙ ap (λ x. cond (eqb v 4) (pos 0) x) (is.coefficients v lt);
}

pub opposite-is : (form result : Form) (d : LinearForm) → IsForm form d → IsForm result (opposite (form_seen form)) → IsForm result (opposite d)
opposite-is form result d is turned = record {
  constant = turned.constant ∙ ap neg_ℤ is.constant;
  coefficients = λ v lt. turned.coefficients v lt ∙ ap neg_ℤ (is.coefficients v lt);
}
