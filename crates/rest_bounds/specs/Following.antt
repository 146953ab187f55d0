-- When a filter goes by how far the victim is ahead: where all threads weigh the same, a comparison's two sides differ
-- by a sum that grows by so much with each thread of the thief, by so much with each thread of the victim, and with
-- attributes. So it is enough to look at two cores without threads, and at one thread more.
use Rattle.std.specs.Prelude.{ℕ, nat_le, nat_lt, ◌==◌, ℤ, pos, ◌+ℤ◌, ◌-ℤ◌, int_le, Bool, true, false, not, ◌&&◌, ◌||◌}
use Rattle.std.specs.Prelude.{Option, None, Some}
use Rattle.std.specs.Ordering.{int_eq}
use Rattle.policy_tree.specs.declared.trees.Cmp.{Cmp}
use Rattle.policy_tree.specs.declared.trees.Cmp.TheVariants as cmp
use Rattle.policy_tree.specs.declared.variables.TheConstants.{OTHER_ATTRIBUTES, SELF_ATTRIBUTES, THREAD_ATTRIBUTES}
use Rattle.policy_tree.specs.Meaning.{BatchTree, Meaning}
use Rattle.policy_tree.specs.Trees.{CondTree, always, negated, both, either, test}
use Rattle.policy_tree.specs.Trees.{ExprTree, number, variable, negation, plus, minus, times}
use Rattle.policy_eval.specs.declared.env.CoreValues.{CoreValues}
use Rattle.policy_eval.specs.Ranges.{greatest_weight, least_weight}
use Rattle.policy_eval.specs.Sights.{no_attributes, pair_values}
use Rattle.policy_eval.specs.Values.{Assignment, value_of}

-- a core with so many threads and that load, whose attributes are all 0
abbrev pub with_load : ℕ → ℕ → CoreValues
with_load nr load = record { nr = nr; load = load; consts = no_attributes }

-- what the filter sees where neither core has a thread
abbrev pub nobody : Assignment
nobody = pair_values (with_load 0 0) (with_load 0 0)

-- where the thief has one thread of that weight
abbrev pub own_more : ℕ → Assignment
own_more w = pair_values (with_load 1 w) (with_load 0 0)

-- where the victim has one
abbrev pub victim_more : ℕ → Assignment
victim_more w = pair_values (with_load 0 0) (with_load 1 w)

-- how much the expression grows by that thread
abbrev pub growth : Assignment → ExprTree → ℤ
growth more e = value_of more e -ℤ value_of nobody e

-- whether a variable of the expression has a number from the first on and below the second
abbrev pub asks_within : ℕ → ℕ → ExprTree → Bool
asks_within from to (number n) = false
asks_within from to (variable at) = nat_le from at && nat_lt at to
asks_within from to (negation e) = asks_within from to e
asks_within from to (plus l r) = asks_within from to l || asks_within from to r
asks_within from to (minus l r) = asks_within from to l || asks_within from to r
asks_within from to (times l r) = asks_within from to l || asks_within from to r

-- whether an attribute of the thief stands in it
abbrev pub asks_own : ExprTree → Bool
asks_own e = asks_within SELF_ATTRIBUTES OTHER_ATTRIBUTES e

-- whether an attribute of either core does
abbrev pub asks_attributes : ExprTree → Bool
asks_attributes e = asks_within SELF_ATTRIBUTES THREAD_ATTRIBUTES e

module _ (weight : ℕ) where
  -- the expression never falls where the victim has a thread more, nor where both have a thread fewer, and the thief's
  -- attributes don't count
  unfoldable pub rises : ExprTree → Bool
  rises e =
      int_le (pos 0) (growth (victim_more weight) e)
      && (int_le (growth (own_more weight) e +ℤ growth (victim_more weight) e) (pos 0) && not (asks_own e))

  -- neither side gains on the other so
  abbrev pub stays : ExprTree → ExprTree → Bool
  stays l r = rises (minus l r) && rises (minus r l)

  -- the expression is a multiple of the thief's thread count: where it is 0 it is so with fewer threads too
  unfoldable pub is_own_multiple : ExprTree → Bool
  is_own_multiple e =
      int_eq (value_of nobody e) (pos 0)
      && (int_eq (growth (victim_more weight) e) (pos 0) && not (asks_attributes e))

  -- a comparison with that outcome keeps it
  abbrev pub test_keeps : Bool → Cmp → ExprTree → ExprTree → Bool
  test_keeps true cmp.Eq l r = stays l r || is_own_multiple (minus l r)
  test_keeps false cmp.Eq l r = stays l r
  test_keeps true cmp.Ne l r = stays l r
  test_keeps false cmp.Ne l r = stays l r || is_own_multiple (minus l r)
  test_keeps true cmp.Lt l r = rises (minus r l)
  test_keeps false cmp.Lt l r = rises (minus l r)
  test_keeps true cmp.Le l r = rises (minus r l)
  test_keeps false cmp.Le l r = rises (minus l r)
  test_keeps true cmp.Gt l r = rises (minus l r)
  test_keeps false cmp.Gt l r = rises (minus r l)
  test_keeps true cmp.Ge l r = rises (minus l r)
  test_keeps false cmp.Ge l r = rises (minus r l)

  -- so does a condition each of whose comparisons does, the outcome of a negation being the other one
  abbrev pub keeps : Bool → CondTree → Bool
  keeps outcome always = true
  keeps outcome (negated c) = keeps (not outcome) c
  keeps outcome (both l r) = keeps outcome l && keeps outcome r
  keeps outcome (either l r) = keeps outcome l && keeps outcome r
  keeps outcome (test how l r) = test_keeps outcome how l r

-- a steal moves one thread
abbrev pub moves_one : Option BatchTree → Bool
moves_one None = true
moves_one (Some batch) = false

-- all threads weigh the same, a steal moves one of them, and a filter that holds keeps holding
abbrev pub raises_lowest : Meaning → Bool
raises_lowest p =
    (least_weight p.load == greatest_weight p.load)
    && (moves_one p.batch && keeps (least_weight p.load) true p.filter)
