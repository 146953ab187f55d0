-- An order by which an attribute's least value is elected has the one key that says so.
use Rattle.std.proofs.Common.{◌≡◌, ℕ, ◌+◌, ◌-◌, ◌≤◌, Bool, true, false, cond, List, [], ◌∷◌, Some, None, refl, ap, arith}
use Rattle.std.proofs.lemmas.Bool.{leb-true}
use Rattle.std.specs.Prelude.{nat_le}
use Rattle.policy_tree.specs.Meaning.{KeyTree, greatest_first, least_first, preferring}
use Rattle.policy_tree.specs.Trees.{ExprTree, number, variable, negation, plus, minus, times}
use Rattle.wait_classes.specs.Electing.{attribute_in, elected_by, least_attribute}

variable_is : (at a : ℕ) (test : Bool) → (test ≡ true → 22 ≤ at) → cond test (Some (at - 22)) None ≡ Some a → at ≡ 22 + a
variable_is at a true least is = let low = least refl in let same : at - 22 ≡ a = cc in omega arith
variable_is at a false least is = absurd (cc)

attribute_is : (e : ExprTree) (a : ℕ) → attribute_in e ≡ Some a → e ≡ variable (22 + a)
attribute_is (number n) a is = absurd (cc)
attribute_is (variable at) a is = ap variable (variable_is at a (nat_le 22 at) (leb-true 22 at) is)
attribute_is (negation e) a is = absurd (cc)
attribute_is (plus l r) a is = absurd (cc)
attribute_is (minus l r) a is = absurd (cc)
attribute_is (times l r) a is = absurd (cc)

key_is : (key : KeyTree) (a : ℕ) → least_attribute key ≡ Some a → key ≡ least_first (variable (22 + a))
key_is (least_first e) a is = ap least_first (attribute_is e a is)
key_is (greatest_first e) a is = absurd (cc)
key_is (preferring c) a is = absurd (cc)

pub order_is : (keys : List KeyTree) (a : ℕ) → elected_by keys ≡ Some a → keys ≡ least_first (variable (22 + a)) ∷ []
order_is [] a is = absurd (cc)
order_is (key ∷ []) a is = ap (λ (k : KeyTree). k ∷ []) (key_is key a is)
order_is (key ∷ second ∷ keys) a is = absurd (cc)
