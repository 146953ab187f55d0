-- The tokens of orders, each as it is spelled.
use Rattle.std.specs.Prelude.{ℕ, List, [], ◌∷◌, ◌++◌, codes}
use Rattle.std.specs.List.{flat_map}
use Rattle.policy_syntax.specs.SyntaxTrees.{KeySyntaxTree, ranked, preferring, OrderSyntaxTree}
use Rattle.policy_printer.specs.WordTexts.{key_text}
use Rattle.policy_printer.specs.ExpressionTexts.{expr_texts}
use Rattle.policy_printer.specs.ConditionTexts.{condition_texts}

abbrev pub key_texts : KeySyntaxTree → List (List ℕ)
key_texts (ranked at greatest value) = key_text greatest ∷ expr_texts value
key_texts (preferring at v) = codes "prefer" ∷ condition_texts v

abbrev pub further_key_texts : KeySyntaxTree → List (List ℕ)
further_key_texts v = codes "," ∷ key_texts v

abbrev pub keys_texts : List KeySyntaxTree → List (List ℕ)
keys_texts [] = codes "first" ∷ []
keys_texts (first ∷ rest) = key_texts first ++ flat_map further_key_texts rest

abbrev pub order_texts : OrderSyntaxTree → List (List ℕ)
order_texts v = keys_texts v.keys
