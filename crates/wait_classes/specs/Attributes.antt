-- What the text of a case says of one attribute of its thread: under which of its values the guard can't hold, and
-- whether assignments lower or raise it.
use Rattle.std.specs.Prelude.{ℕ, ◌+◌, ◌==◌, ℤ, pos, int_le, int_lt, Bool, true, false, not, cond, ◌&&◌, ◌||◌, List}
use Rattle.std.specs.Prelude.{Option, Some, None}
use Rattle.std.specs.List.{list_all, list_any}
use Rattle.policy_tree.specs.declared.trees.Cmp.{Cmp}
use Rattle.policy_tree.specs.declared.variables.TheConstants.{THREAD_ATTRIBUTES, WEIGHT}
use Rattle.policy_tree.specs.Meaning.{SetTree}
use Rattle.policy_tree.specs.Trees.{ExprTree, number, variable, negation, plus, minus, times}
use Rattle.policy_tree.specs.Trees.{CondTree, always, negated, both, either, test}
use Rattle.policy_eval.specs.Values.{compared}
use Rattle.wait_classes.specs.declared.attributes.Aim.{Aim}
use Rattle.wait_classes.specs.declared.attributes.Aim.TheVariants as aim

-- the expression is a number greater than 0, or the thread's weight, which is one
abbrev pub is_positive : ExprTree → Bool
is_positive (number n) = int_lt (pos 0) n
is_positive (variable at) = at == WEIGHT
is_positive (negation e) = false
is_positive (plus l r) = false
is_positive (minus l r) = false
is_positive (times l r) = false

-- two known values don't compare so
abbrev pub differs : Bool → Cmp → Option ℤ → Option ℤ → Bool
differs true how (Some x) (Some y) = not (compared how x y)
differs false how (Some x) (Some y) = compared how x y
differs outcome how (Some x) None = false
differs outcome how None right = false

module _ (a : ℕ) where
  -- the expression is the attribute
  abbrev pub is_attribute : ExprTree → Bool
  is_attribute (number n) = false
  is_attribute (variable at) = at == THREAD_ATTRIBUTES + a
  is_attribute (negation e) = false
  is_attribute (plus l r) = false
  is_attribute (minus l r) = false
  is_attribute (times l r) = false

  -- what is known of an expression's value where the attribute has that value
  abbrev pub known : ℤ → ExprTree → Option ℤ
  known x (number n) = Some n
  known x (variable at) = cond (at == THREAD_ATTRIBUTES + a) (Some x) None
  known x (negation e) = None
  known x (plus l r) = None
  known x (minus l r) = None
  known x (times l r) = None

  -- where the attribute has that value, the condition never has that outcome. Comparisons of the attribute with numbers
  -- tell it: one part does of two that have to have the outcome together, and both do of two of which one has to
  abbrev pub never : ℤ → Bool → CondTree → Bool
  never x outcome always = not outcome
  never x outcome (negated c) = never x (not outcome) c
  never x true (both l r) = never x true l || never x true r
  never x false (both l r) = never x false l && never x false r
  never x true (either l r) = never x true l && never x true r
  never x false (either l r) = never x false l || never x false r
  never x outcome (test how l r) = differs outcome how (known x l) (known x r)

  -- the value is less than the attribute, or at most its lower end
  abbrev pub lowers : ℤ → ExprTree → Bool
  lowers low (number n) = int_le n low
  lowers low (variable at) = false
  lowers low (negation e) = false
  lowers low (plus l r) = false
  lowers low (minus l r) = is_attribute l && is_positive r
  lowers low (times l r) = false

  -- the value is greater than the attribute, or at least its upper end
  abbrev pub raises : ℤ → ExprTree → Bool
  raises high (number n) = int_le high n
  raises high (variable at) = false
  raises high (negation e) = false
  raises high (plus l r) = is_attribute l && is_positive r
  raises high (minus l r) = false
  raises high (times l r) = false

  -- an assignment of the value moves the attribute there, or leaves it at that end
  abbrev pub moves : Aim → ExprTree → Bool
  moves (aim.Down low) e = lowers low e
  moves (aim.Up high) e = raises high e

  -- an assignment to the attribute
  abbrev pub sets_it : SetTree → Bool
  sets_it s = s.attr == a

  -- it moves the attribute there, or is one to another attribute
  abbrev pub moves_or_leaves : Aim → SetTree → Bool
  moves_or_leaves towards s = not (sets_it s) || moves towards s.expr

  -- there are assignments to the attribute, and each moves it there
  abbrev pub is_moved : Aim → List SetTree → Bool
  is_moved towards sets = list_any sets_it sets && list_all (moves_or_leaves towards) sets
