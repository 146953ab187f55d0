-- The linear form of an expression, what it refers to, and how long it is.
use Rattle.std.specs.Prelude.{ℕ, ◌+◌, ◌==◌, ℤ, pos, ◌+ℤ◌, ◌-ℤ◌, ◌*ℤ◌, neg_ℤ, Bool, true, false, cond, ◌&&◌, ◌||◌}
use Rattle.std.specs.Prelude.{IsFalse, IsTrue}
use Rattle.sched_base.specs.declared.limits.TheConstants.{MAX_COEFFICIENT}
use Rattle.policy_tree.specs.Trees.{ExprTree, number, variable, negation, plus, minus, times, CondTree, always, negated}
use Rattle.policy_tree.specs.Trees.{both, either, test}
use Rattle.policy_eval.specs.Ranges.{IsIn, within}

-- whether any variable stands in the expression
abbrev pub has_reference : ExprTree → Bool
has_reference (number n) = false
has_reference (variable at) = true
has_reference (negation e) = has_reference e
has_reference (plus l r) = has_reference l || has_reference r
has_reference (minus l r) = has_reference l || has_reference r
has_reference (times l r) = has_reference l || has_reference r

-- the constant of the linear form
abbrev pub constant_of : ExprTree → ℤ
constant_of (number n) = n
constant_of (variable at) = pos 0
constant_of (negation e) = neg_ℤ (constant_of e)
constant_of (plus l r) = constant_of l +ℤ constant_of r
constant_of (minus l r) = constant_of l -ℤ constant_of r
constant_of (times l r) = constant_of l *ℤ constant_of r

-- the coefficient of a variable in the linear form, like terms added up
abbrev pub coefficient_of : ExprTree → ℕ → ℤ
coefficient_of (number n) v = pos 0
coefficient_of (variable at) v = cond (at == v) (pos 1) (pos 0)
coefficient_of (negation e) v = neg_ℤ (coefficient_of e v)
coefficient_of (plus l r) v = coefficient_of l v +ℤ coefficient_of r v
coefficient_of (minus l r) v = coefficient_of l v -ℤ coefficient_of r v
coefficient_of (times l r) v = constant_of l *ℤ coefficient_of r v +ℤ coefficient_of l v *ℤ constant_of r

-- the magnitude is one that a coefficient or a constant may have
abbrev pub IsSmall : ℤ → Type 0
IsSmall = IsIn (within MAX_COEFFICIENT)

-- constant and coefficients are small
pub record HasSmallForm (e : ExprTree) : Type 0 where
  pub constant : IsSmall (constant_of e)
  pub coefficients : (v : ℕ) → IsSmall (coefficient_of e v)

-- of the two sides of a product at most one has a variable
abbrev pub IsScaled : ExprTree → ExprTree → Type 0
IsScaled l r = IsFalse (has_reference l && has_reference r)

-- linear, with a small form at each number and each operator
abbrev pub IsLinear : ExprTree → Type 0
IsLinear (number n) = IsSmall n
IsLinear (variable at) = Unit {0}
IsLinear (negation e) = IsLinear e × HasSmallForm (negation e)
IsLinear (plus l r) = IsLinear l × IsLinear r × HasSmallForm (plus l r)
IsLinear (minus l r) = IsLinear l × IsLinear r × HasSmallForm (minus l r)
IsLinear (times l r) = IsLinear l × IsLinear r × IsScaled l r × HasSmallForm (times l r)

-- the number of operators, the unary one among them
abbrev pub operators_of : ExprTree → ℕ
operators_of (number n) = 0
operators_of (variable at) = 0
operators_of (negation e) = operators_of e + 1
operators_of (plus l r) = operators_of l + operators_of r + 1
operators_of (minus l r) = operators_of l + operators_of r + 1
operators_of (times l r) = operators_of l + operators_of r + 1

-- each variable of the expression passes the test
abbrev pub RefersTo : (ℕ → Bool) → ExprTree → Type 0
RefersTo allowed (number n) = Unit {0}
RefersTo allowed (variable at) = IsTrue (allowed at)
RefersTo allowed (negation e) = RefersTo allowed e
RefersTo allowed (plus l r) = RefersTo allowed l × RefersTo allowed r
RefersTo allowed (minus l r) = RefersTo allowed l × RefersTo allowed r
RefersTo allowed (times l r) = RefersTo allowed l × RefersTo allowed r

-- the number of comparisons of a condition
abbrev pub comparisons_of : CondTree → ℕ
comparisons_of always = 0
comparisons_of (negated c) = comparisons_of c
comparisons_of (both l r) = comparisons_of l + comparisons_of r
comparisons_of (either l r) = comparisons_of l + comparisons_of r
comparisons_of (test how l r) = 1

-- both sides of each comparison of the condition have the property
abbrev pub EachSide : (ExprTree → Type 0) → CondTree → Type 0
EachSide P always = Unit {0}
EachSide P (negated c) = EachSide P c
EachSide P (both l r) = EachSide P l × EachSide P r
EachSide P (either l r) = EachSide P l × EachSide P r
EachSide P (test how l r) = P l × P r
