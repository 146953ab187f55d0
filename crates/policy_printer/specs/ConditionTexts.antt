-- The tokens of conditions, each as it is spelled.
use Rattle.std.specs.Prelude.{ℕ, List, [], ◌∷◌, ◌++◌, codes}
use Rattle.policy_syntax.specs.SyntaxTrees.{ConditionTree, always, negated, grouped, all, any, test, ConditionTrees}
use Rattle.policy_syntax.specs.SyntaxTrees.{no_more, more}
use Rattle.policy_printer.specs.WordTexts.{compare_text}
use Rattle.policy_printer.specs.ExpressionTexts.{expr_texts}

abbrev mutual
  pub condition_texts : ConditionTree → List (List ℕ)
  condition_texts (always at) = codes "always" ∷ []
  condition_texts (negated at v) = codes "not" ∷ condition_texts v
  condition_texts (grouped at v) = codes "(" ∷ (condition_texts v ++ (codes ")" ∷ []))
  condition_texts (all at parts) = parts_texts (codes "and") parts
  condition_texts (any at parts) = parts_texts (codes "or") parts
  condition_texts (test at compare left right) = expr_texts left ++ (compare_text compare ∷ expr_texts right)

  -- the parts, with the word between each two
  pub parts_texts : List ℕ → ConditionTrees → List (List ℕ)
  parts_texts word no_more = []
  parts_texts word (more v rest) = condition_texts v ++ further_texts word rest

  -- the parts, with the word before each
  pub further_texts : List ℕ → ConditionTrees → List (List ℕ)
  further_texts word no_more = []
  further_texts word (more v rest) = word ∷ (condition_texts v ++ further_texts word rest)
