-- The value of an expression, and whether a condition holds, for whole numbers of any size.
use Rattle.std.specs.Prelude.{ℕ, ℤ, pos, ◌+ℤ◌, ◌-ℤ◌, ◌*ℤ◌, neg_ℤ, Bool, true, not, ◌&&◌, ◌||◌, int_lt, int_le, IsTrue}
use Rattle.std.specs.Prelude.{List, slice_index_or}
use Rattle.std.specs.Ordering.{int_eq}
use Rattle.policy_tree.specs.declared.trees.Cmp.{Cmp}
use Rattle.policy_tree.specs.declared.trees.Cmp.TheVariants as cmp
use Rattle.policy_tree.specs.Trees.{ExprTree, number, variable, negation, plus, minus, times, CondTree, always, negated}
use Rattle.policy_tree.specs.Trees.{both, either, test}

-- the value of each variable, by the variable's number
abbrev pub Assignment : Type 0
Assignment = List ℤ

-- the value of a variable: 0 where the assignment has none
abbrev pub variable_of : Assignment → ℕ → ℤ
variable_of values at = slice_index_or values at (pos 0)

-- the value of an expression. Nothing saturates
abbrev pub value_of : Assignment → ExprTree → ℤ
value_of values (number n) = n
value_of values (variable at) = variable_of values at
value_of values (negation e) = neg_ℤ (value_of values e)
value_of values (plus l r) = value_of values l +ℤ value_of values r
value_of values (minus l r) = value_of values l -ℤ value_of values r
value_of values (times l r) = value_of values l *ℤ value_of values r

-- the outcome of a comparison
abbrev pub compared : Cmp → ℤ → ℤ → Bool
compared cmp.Eq x y = int_eq x y
compared cmp.Ne x y = not (int_eq x y)
compared cmp.Lt x y = int_lt x y
compared cmp.Le x y = int_le x y
compared cmp.Gt x y = int_lt y x
compared cmp.Ge x y = int_le y x

-- whether a condition holds
abbrev pub holds : Assignment → CondTree → Bool
holds values always = true
holds values (negated c) = not (holds values c)
holds values (both l r) = holds values l && holds values r
holds values (either l r) = holds values l || holds values r
holds values (test how l r) = compared how (value_of values l) (value_of values r)

-- the condition holds
abbrev pub Holds : Assignment → CondTree → Type 0
Holds values condition = IsTrue (holds values condition)
