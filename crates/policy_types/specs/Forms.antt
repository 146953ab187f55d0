-- Which expressions have a linear form, and whether it is small.
use Rattle.std.specs.Prelude.{ℕ, zero, suc, ℤ, neg_ℤ, int_le, Bool, true, not, ◌&&◌}
use Rattle.sched_base.specs.declared.limits.TheConstants.{MAX_COEFFICIENT, MAX_VARIABLES}
use Rattle.policy_tree.specs.Trees.{ExprTree, number, variable, negation, plus, minus, times}
use Rattle.policy_eval.specs.Forms.{coefficient_of, constant_of, has_reference}

-- whether no product in the expression has a reference on both sides
abbrev pub has_form : ExprTree → Bool
has_form (number n) = true
has_form (variable at) = true
has_form (negation e) = has_form e
has_form (plus l r) = has_form l && has_form r
has_form (minus l r) = has_form l && has_form r
has_form (times l r) = has_form l && (has_form r && not (has_reference l && has_reference r))

-- whether the magnitude is one that a coefficient or a constant may have
unfoldable pub is_small : ℤ → Bool
is_small x = int_le (neg_ℤ MAX_COEFFICIENT) x && int_le x MAX_COEFFICIENT

-- whether all numbers below that one pass the test
abbrev pub all_below : (ℕ → Bool) → ℕ → Bool
all_below test zero = true
all_below test (suc n) = test n && all_below test n

-- whether the constant is small and the coefficient of each variable, what is unknown among them
unfoldable pub has_small_form : ExprTree → Bool
has_small_form e = is_small (constant_of e) && all_below (λ v. is_small (coefficient_of e v)) (suc MAX_VARIABLES)
