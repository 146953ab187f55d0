-- What the evaluator takes.
use Rattle.std.specs.Prelude.{ℕ, nat_lt, List}
use Rattle.std.specs.List.{AllByRecursion}
use Rattle.sched_base.specs.declared.limits.TheConstants.{MAX_VARIABLES}
use Rattle.policy_tree.specs.Trees.{ExprTree, CondTree}
use Rattle.policy_tree.specs.Meaning.{KeyTree, greatest_first, least_first, preferring}
use Rattle.policy_eval.specs.Forms.{EachSide, IsLinear, RefersTo}

-- a linear expression over the variables that there are
pub record IsEvaluable (e : ExprTree) : Type 0 where
  pub linear : IsLinear e
  pub known : RefersTo (λ (at : ℕ). nat_lt at MAX_VARIABLES) e

-- a condition that the evaluator takes
abbrev pub IsEvaluableCond : CondTree → Type 0
IsEvaluableCond c = EachSide IsEvaluable c

-- a key that the evaluator takes
abbrev pub IsEvaluableKey : KeyTree → Type 0
IsEvaluableKey (least_first e) = IsEvaluable e
IsEvaluableKey (greatest_first e) = IsEvaluable e
IsEvaluableKey (preferring c) = IsEvaluableCond c

-- an order that the evaluator takes
abbrev pub IsEvaluableOrder : List KeyTree → Type 0
IsEvaluableOrder keys = AllByRecursion IsEvaluableKey keys
