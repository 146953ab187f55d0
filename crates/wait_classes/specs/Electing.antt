-- The attribute whose least value is elected.
use Rattle.std.specs.Prelude.{ℕ, ◌-◌, nat_le, cond, List, [], ◌∷◌, Option, Some, None}
use Rattle.policy_tree.specs.declared.variables.TheConstants.{THREAD_ATTRIBUTES}
use Rattle.policy_tree.specs.Meaning.{KeyTree, greatest_first, least_first, preferring}
use Rattle.policy_tree.specs.Trees.{ExprTree, number, variable, negation, plus, minus, times}

-- the attribute of threads that the expression is, if it is one
abbrev pub attribute_in : ExprTree → Option ℕ
attribute_in (number n) = None
attribute_in (variable at) = cond (nat_le THREAD_ATTRIBUTES at) (Some (at - THREAD_ATTRIBUTES)) None
attribute_in (negation e) = None
attribute_in (plus l r) = None
attribute_in (minus l r) = None
attribute_in (times l r) = None

-- the attribute whose least value comes first by the key
abbrev pub least_attribute : KeyTree → Option ℕ
least_attribute (least_first e) = attribute_in e
least_attribute (greatest_first e) = None
least_attribute (preferring c) = None

-- and by the order, if it has that key alone
abbrev pub elected_by : List KeyTree → Option ℕ
elected_by [] = None
elected_by (key ∷ []) = least_attribute key
elected_by (key ∷ second ∷ keys) = None
