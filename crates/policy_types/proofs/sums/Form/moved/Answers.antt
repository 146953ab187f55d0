-- The number of one variable, or the constant, changes.
use Rattle.std.proofs.Common.{◌≡◌, ◌≤◌, ◌+ℤ◌, ℤ, pos, get_or, true, false, refl, ap, subst, ◌∙◌, arith}
use Rattle.sched_base.specs.declared.limits.TheConstants.{MAX_VARIABLES}
use Rattle.policy_types.specs.Forms.{is_small}
use Rattle.policy_types.specs.Products.{IsKnown, IsMoved, IsSize, with_sign}
use Rattle.policy_types.proofs.Moves.{coefficient_big, coefficient_moved, constant_big, constant_moved, stored}
use Rattle.policy_types.proofs.Small.{small_constant, small_coefficient}
use Rattle.policy_types.proofs.sums.Form.moved.Goals as goal

pub returns-in_err-form-in-Some : goal.returns-in_err-form-in-Some
returns-in_err-form-in-Some c = λ l e n is size moved.
    let f = c.args.self in let at = c.in-Some.at in let g = get_or f.coefficients at (pos 0) in let x = with_sign c.args.negative n in
    let known : at ≤ MAX_VARIABLES = subst IsKnown c.in-Some.is c.requires.known in
    let small = ap is_small (is.coefficients at known) ∙ small_coefficient l is.small at known in
    let big = subst (λ (z : ℤ). is_small z ≡ true → IsSize c.args.size n → is_small (z +ℤ x) ≡ false) (stored g g refl small) (c.in_err-form-in-Some.ensures n) in
    rw c.from_residual.ensures (coefficient_big f l e x at is (subst (λ o. IsMoved o x l e) c.in-Some.is moved) known (big small size))

pub returns-in_ok-form-in-Some : goal.returns-in_ok-form-in-Some
returns-in_ok-form-in-Some c = λ l e n is size moved.
    let f = c.args.self in let at = c.in-Some.at in let g = get_or f.coefficients at (pos 0) in let x = with_sign c.args.negative n in
    let y = c.in_ok-form-in-Some.field-0 in
    let known : at ≤ MAX_VARIABLES = subst IsKnown c.in-Some.is c.requires.known in
    let small = ap is_small (is.coefficients at known) ∙ small_coefficient l is.small at known in
    let told = subst (λ (z : ℤ). is_small z ≡ true → IsSize c.args.size n → (y ≡ z +ℤ x) × (is_small (z +ℤ x) ≡ true)) (stored g g refl small) (c.in_ok-form-in-Some.ensures n) in
    let both = told small size in
    coefficient_moved f l e x at is (subst (λ o. IsMoved o x l e) c.in-Some.is moved) known y (omega arith) both.0 both.1

pub returns-in_err-form-in-None : goal.returns-in_err-form-in-None
returns-in_err-form-in-None c = λ l e n is size moved.
    let f = c.args.self in let x = with_sign c.args.negative n in
    let small = ap is_small is.constant ∙ small_constant l is.small in
    let big = subst (λ (z : ℤ). is_small z ≡ true → IsSize c.args.size n → is_small (z +ℤ x) ≡ false) (stored f.constant f.constant refl small) (c.in_err-form-in-None.ensures n) in
    rw c.from_residual-in_err-form-in-None.ensures (constant_big f l e x is (subst (λ o. IsMoved o x l e) c.in-None.is moved) (big small size))

pub returns-in_ok-form-in-None : goal.returns-in_ok-form-in-None
returns-in_ok-form-in-None c = λ l e n is size moved.
    let f = c.args.self in let x = with_sign c.args.negative n in let y = c.in_ok-form-in-None.field-0 in
    let small = ap is_small is.constant ∙ small_constant l is.small in
    let told = subst (λ (z : ℤ). is_small z ≡ true → IsSize c.args.size n → (y ≡ z +ℤ x) × (is_small (z +ℤ x) ≡ true)) (stored f.constant f.constant refl small) (c.in_ok-form-in-None.ensures n) in
    let both = told small size in
    constant_moved f l e x is (subst (λ o. IsMoved o x l e) c.in-None.is moved) y both.0 both.1
