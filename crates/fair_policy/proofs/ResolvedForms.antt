-- Expressions, orders and cases of short policies are resolved.
use Rattle.std.proofs.Common.{◌≤◌, ℕ, pos, ◌+ℤ◌, ◌-ℤ◌, Bool, true, false, cond, eqb, [], ◌∷◌, arith, All}
use Rattle.std.proofs.lemmas.Int.{ints}
use Rattle.std.proofs.lemmas.List.Elements.{All-from_recursion, All-nil}
use Rattle.policy_tree.specs.declared.typed.Event.{Event}
use Rattle.policy_tree.specs.declared.typed.Put.{Put}
use Rattle.policy_tree.specs.Trees.{number, variable, plus, minus}
use Rattle.policy_tree.specs.Meaning.{KeyTree, Meaning}
use Rattle.policy_eval.specs.Forms.{IsLinear, IsSmall}
use Rattle.policy_eval.specs.Resolved.{IsResolvedCase, IsResolvedKey, IsResolvedOrder}
use Rattle.policy_eval.specs.Sites.{AllowsPut, Site}
use Rattle.fair_policy.specs.Forms.{whenever}

-- a sum and a difference of coefficients that are 0 or 1
sum_small : (b : Bool) → IsSmall (cond b (pos 1) (pos 0) +ℤ pos 0)
sum_small true = record { above = omega (arith, ints); below = omega (arith, ints) }
sum_small false = record { above = omega (arith, ints); below = omega (arith, ints) }

difference_small : (b c : Bool) → IsSmall (cond b (pos 1) (pos 0) -ℤ cond c (pos 1) (pos 0))
difference_small true true = record { above = omega (arith, ints); below = omega (arith, ints) }
difference_small true false = record { above = omega (arith, ints); below = omega (arith, ints) }
difference_small false true = record { above = omega (arith, ints); below = omega (arith, ints) }
difference_small false false = record { above = omega (arith, ints); below = omega (arith, ints) }

pub number_linear : (n : ℕ) → n ≤ 1099511627776 → IsLinear (number (pos n))
number_linear n small = record { above = omega (arith, ints); below = omega (arith, ints) }

pub difference_linear : (v w : ℕ) → IsLinear (minus (variable v) (variable w))
difference_linear v w = (tt, tt, record { constant = difference_small false false; coefficients = λ x. difference_small (eqb v x) (eqb w x) })

pub one_more_linear : (v : ℕ) → IsLinear (plus (variable v) (number (pos 1)))
one_more_linear v = (tt, number_linear 1 (omega arith), record { constant = sum_small_one; coefficients = λ x. sum_small (eqb v x) })
  where
    sum_small_one : IsSmall (pos 0 +ℤ pos 1)
    sum_small_one = record { above = omega (arith, ints); below = omega (arith, ints) }

pub no_keys : (p : Meaning) (site : Site) → IsResolvedOrder p site []
no_keys p site = record { few = omega arith; keys = All-nil _ }

-- an order of one key
pub by_one_key : (p : Meaning) (site : Site) (key : KeyTree) → IsResolvedKey p site key → IsResolvedOrder p site (key ∷ [])
by_one_key p site key is = record { few = omega arith; keys = All-from_recursion (IsResolvedKey p site) (key ∷ []) (is, tt) }

-- a case that always holds and assigns nothing
pub plain_case : (p : Meaning) (e : Event) (place : Put) → AllowsPut e place → All (IsResolvedCase p e) (whenever [] place)
plain_case p e place allowed =
    All-from_recursion (IsResolvedCase p e) (whenever [] place) (record { guard = record { few = omega arith; sides = tt }; few = omega arith; sets = All-nil _; put = allowed }, tt)
