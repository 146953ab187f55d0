-- How many nodes a condition has, and the parts of a chain with the word before each.
use Rattle.std.proofs.Common.{◌≡◌, ◌<◌, ◌≤◌, ◌+◌, ℕ, zero, suc, List, [], ◌∷◌, length, get_or, arith, ◌++◌, refl, ap}
use Rattle.std.specs.List.{flat_map}
use Rattle.policy_syntax.specs.declared.syntax.ConditionSyntax.{ConditionSyntax}
use Rattle.policy_syntax.specs.SyntaxTrees.{ConditionTree, always, negated, grouped, all, any, test, ConditionTrees, no_more, more, condition_tree, condition_trees}
use Rattle.policy_printer.specs.ConditionTexts.{condition_texts, further_texts}

abbrev pub part_texts : List ℕ → ConditionSyntax → List (List ℕ)
part_texts word part = word ∷ condition_texts (condition_tree part)

pub further-flat : (word : List ℕ) (parts : List ConditionSyntax) → further_texts word (condition_trees parts) ≡ flat_map (part_texts word) parts
further-flat word [] = refl
further-flat word (part ∷ rest) =
    ap (λ (more : List (List ℕ)). word ∷ (condition_texts (condition_tree part) ++ more)) (further-flat word rest)

abbrev mutual
  pub nodes : ConditionTree → ℕ
  nodes (always at) = 1
  nodes (negated at v) = nodes v + 1
  nodes (grouped at v) = nodes v + 1
  nodes (all at parts) = nodes_of parts + 1
  nodes (any at parts) = nodes_of parts + 1
  nodes (test at compare left right) = 1

  pub nodes_of : ConditionTrees → ℕ
  nodes_of no_more = 0
  nodes_of (more v rest) = nodes v + nodes_of rest

pub nodes-part : (parts : List ConditionSyntax) (k : ℕ) (d : ConditionSyntax) → k < length parts →
    nodes (condition_tree (get_or parts k d)) ≤ nodes_of (condition_trees parts)
nodes-part [] k d less = absurd (omega (arith, less))
nodes-part (part ∷ rest) zero d less = omega arith
nodes-part (part ∷ rest) (suc k) d less = let below = nodes-part rest k d (omega arith) in omega (arith, below)
