-- Expressions and conditions without the places where they lie in memory: what contracts compare.
use Rattle.std.specs.Prelude.{ℕ, ℤ}
use Rattle.policy_tree.specs.declared.trees.Cmp.{Cmp}
use Rattle.policy_tree.specs.declared.trees.Expr.{Expr, Num, Var, Neg', Add', Sub', Mul'}
use Rattle.policy_tree.specs.declared.trees.Cond.{Cond, Always, Not', And', Or', Test}

pub data ExprTree : Type 0 where
  number : ℤ → ExprTree
  variable : ℕ → ExprTree
  negation : ExprTree → ExprTree
  plus : ExprTree → ExprTree → ExprTree
  minus : ExprTree → ExprTree → ExprTree
  times : ExprTree → ExprTree → ExprTree

-- the expression as a tree
abbrev pub expr_tree : Expr → ExprTree
expr_tree (Num value) = number value
expr_tree (Var at) = variable at
expr_tree (Neg' p e) = negation (expr_tree e)
expr_tree (Add' p l q r) = plus (expr_tree l) (expr_tree r)
expr_tree (Sub' p l q r) = minus (expr_tree l) (expr_tree r)
expr_tree (Mul' p l q r) = times (expr_tree l) (expr_tree r)

pub data CondTree : Type 0 where
  always : CondTree
  negated : CondTree → CondTree
  both : CondTree → CondTree → CondTree
  either : CondTree → CondTree → CondTree
  test : Cmp → ExprTree → ExprTree → CondTree

-- the condition as a tree
abbrev pub cond_tree : Cond → CondTree
cond_tree Always = always
cond_tree (Not' p c) = negated (cond_tree c)
cond_tree (And' p l q r) = both (cond_tree l) (cond_tree r)
cond_tree (Or' p l q r) = either (cond_tree l) (cond_tree r)
cond_tree (Test cmp l r) = test cmp (expr_tree l) (expr_tree r)
