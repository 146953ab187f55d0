-- Policies that are always decided: threads are counted, and each comparison is one of a constant with a variable, or
-- with the difference of two. `place`, `elect`, `choose` and `steal` may be anything.
use Rattle.std.specs.Prelude.{◌≡◌, ℕ, ◌≤◌, ◌==◌, cond, List, [], ◌∷◌, ◌++◌, length, Option, None, Some}
use Rattle.std.specs.List.{AllByRecursion}
use Rattle.policy_tree.specs.declared.typed.Event.{Event}
use Rattle.policy_tree.specs.declared.typed.Load.TheVariants as load
use Rattle.policy_tree.specs.declared.variables.TheConstants.{WEIGHT}
use Rattle.policy_tree.specs.Meaning.{BatchTree, CaseTree, Meaning, cases_on}
use Rattle.policy_tree.specs.Trees.{ExprTree, number, variable, negation, plus, minus, times, CondTree, always, negated}
use Rattle.policy_tree.specs.Trees.{both, either, test}
use Rattle.policy_eval.specs.Forms.{RefersTo}

-- No variable stands in the expression but the weight of a thread, which is 1 where threads are counted.
abbrev pub IsConstant : ExprTree → Type 0
IsConstant e = RefersTo (λ (at : ℕ). at == WEIGHT) e

-- Nothing but constants is multiplied.
abbrev pub MultipliesConstants : ExprTree → Type 0
MultipliesConstants (number n) = Unit {0}
MultipliesConstants (variable at) = Unit {0}
MultipliesConstants (negation e) = MultipliesConstants e
MultipliesConstants (plus l r) = MultipliesConstants l × MultipliesConstants r
MultipliesConstants (minus l r) = MultipliesConstants l × MultipliesConstants r
MultipliesConstants (times l r) = IsConstant l × IsConstant r

abbrev mutual
  -- The variables that the expression adds, each as often as it does. The weight isn't one of them.
  pub added : ExprTree → List ℕ
  added (number n) = []
  added (variable at) = cond (at == WEIGHT) [] (at ∷ [])
  added (negation e) = taken e
  added (plus l r) = added l ++ added r
  added (minus l r) = added l ++ taken r
  added (times l r) = []

  -- The variables that it takes away.
  pub taken : ExprTree → List ℕ
  taken (number n) = []
  taken (variable at) = []
  taken (negation e) = added e
  taken (plus l r) = taken l ++ taken r
  taken (minus l r) = taken l ++ added r
  taken (times l r) = []

-- The left side less the right one adds at most one variable and takes away at most one. So the comparison is one of a
-- constant with a variable, or with the difference of two.
pub record ComparesDifference (l r : ExprTree) : Type 0 where
  pub scales : MultipliesConstants (minus l r)
  pub adds : length (added (minus l r)) ≤ 1
  pub takes : length (taken (minus l r)) ≤ 1

-- So is each comparison of the condition.
abbrev pub HasDifferences : CondTree → Type 0
HasDifferences always = Unit {0}
HasDifferences (negated c) = HasDifferences c
HasDifferences (both l r) = HasDifferences l × HasDifferences r
HasDifferences (either l r) = HasDifferences l × HasDifferences r
HasDifferences (test how l r) = ComparesDifference l r

-- So is each comparison of the guards of these cases.
abbrev pub HaveDifferences : List CaseTree → Type 0
HaveDifferences cases = AllByRecursion (λ (c : CaseTree). HasDifferences c.guard) cases

-- So is each comparison of the condition under which a steal goes on, if there is one.
abbrev pub GoesOnByDifferences : Option BatchTree → Type 0
GoesOnByDifferences None = Unit {0}
GoesOnByDifferences (Some batch) = HasDifferences batch.condition

-- The whole policy is of that form.
pub record ComparesDifferences (p : Meaning) : Type 0 where
  pub counts : p.load ≡ load.Count
  pub filter : HasDifferences p.filter
  pub handlers : (e : Event) → HaveDifferences (cases_on p.handlers e)
  pub batch : GoesOnByDifferences p.batch
