-- The linear forms that the code keeps: of a term, a number times at most one variable; of a sum, all coefficients.
use Rattle.std.specs.Prelude.{◌≡◌, ℕ, ◌≤◌, ◌^◌, ◌*◌, not, ℤ, pos, neg_ℤ, ◌+ℤ◌, cond, ◌==◌, Bool, true, get_or, Option}
use Rattle.std.specs.Prelude.{Some, None, is_some}
use Rattle.std.specs.Bool.{beq}
use Rattle.sched_base.specs.declared.limits.TheConstants.{MAX_VARIABLES}
use Rattle.policy_tree.specs.Trees.{ExprTree}
use Rattle.policy_eval.specs.Forms.{coefficient_of, constant_of, has_reference}
use Rattle.policy_types.specs.declared.products.Product.{Product}
use Rattle.policy_types.specs.declared.sums.Form.{Form}
use Rattle.policy_types.specs.Forms.{has_form, has_small_form}

-- the number, or nothing where it is too great for 64 bits
abbrev pub IsSize : Option ℕ → ℕ → Type 0
IsSize (Some s) n = s ≡ n
IsSize None n = 2 ^ 64 ≤ n

-- the number with a sign before it, or as it is
abbrev pub with_sign : Bool → ℕ → ℤ
with_sign negative n = cond negative (neg_ℤ (pos n)) (pos n)

-- the constant of x times the variable
abbrev pub constant_part : Option ℕ → ℤ → ℤ
constant_part None x = x
constant_part (Some at) x = pos 0

-- the coefficient of v in x times the variable
abbrev pub coefficient_part : Option ℕ → ℤ → ℕ → ℤ
coefficient_part None x v = pos 0
coefficient_part (Some at) x v = cond (at == v) x (pos 0)

-- the expression's linear form is x times the variable
pub record IsSingle (at : Option ℕ) (x : ℤ) (e : ExprTree) : Type 0 where
  pub form : has_form e ≡ true
  pub reference : has_reference e ≡ is_some at
  pub constant : constant_of e ≡ constant_part at x
  pub coefficient : (v : ℕ) → coefficient_of e v ≡ coefficient_part at x v

-- the product is the linear form of the expression
pub record IsProduct (p : Product) (e : ExprTree) : Type 0 where
  pub exact : ℕ
  pub size : IsSize p.size exact
  pub single : IsSingle p.variable (with_sign p.negative exact) e

-- the product of both numbers, times that variable
pub record IsScaledBy (p q : Product) (at : Option ℕ) (product : Product) : Type 0 where
  pub negative : product.negative ≡ not (beq p.negative q.negative)
  pub size : (m n : ℕ) → IsSize p.size m → IsSize q.size n → IsSize product.size (m * n)
  pub variable : product.variable ≡ at

-- the variable is one that there is, or the one behind the last
abbrev pub IsKnown : Option ℕ → Type 0
IsKnown None = Unit {0}
IsKnown (Some at) = at ≤ MAX_VARIABLES

-- the form is the linear form of the expression, and it is small
pub record IsForm (f : Form) (e : ExprTree) : Type 0 where
  pub form : has_form e ≡ true
  pub small : has_small_form e ≡ true
  pub constant : f.constant ≡ constant_of e
  pub coefficients : (v : ℕ) → v ≤ MAX_VARIABLES → get_or f.coefficients v (pos 0) ≡ coefficient_of e v

-- x times the variable is added to the linear form of l, which gives that of e
pub record IsMoved (at : Option ℕ) (x : ℤ) (l e : ExprTree) : Type 0 where
  pub form : has_form e ≡ true
  pub constant : constant_of e ≡ constant_of l +ℤ constant_part at x
  pub coefficient : (v : ℕ) → coefficient_of e v ≡ coefficient_of l v +ℤ coefficient_part at x v
