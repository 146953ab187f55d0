-- Policies that are of the form that is always decided, and some that aren't.
use Rattle.std.proofs.Common.{◌≡◌, [], ◌∷◌, pos, refl, true≢false, sym, arith}
use Rattle.policy_tree.specs.declared.trees.Cmp.TheVariants as cmp
use Rattle.policy_tree.specs.declared.typed.Attr.{Attr}
use Rattle.policy_tree.specs.declared.typed.Event.{Event}
use Rattle.policy_tree.specs.declared.typed.Event.TheVariants as event
use Rattle.policy_tree.specs.declared.typed.Load.TheVariants as load
use Rattle.policy_tree.specs.Meaning.{Meaning, cases_on}
use Rattle.policy_tree.specs.Trees.{ExprTree, number, variable, plus, minus, times, always, either, test}
use Rattle.obligations.specs.DifferencePolicies.{ComparesDifferences, HasDifferences, HaveDifferences, added, taken}
use Rattle.obligations.proofs.Worked.{basic, batched, handlers, policy}

handlers_are : (e : Event) → HaveDifferences (cases_on handlers e)
handlers_are event.Enqueue = (tt, tt)
handlers_are event.Tick = (tt, tt)
handlers_are event.Yield = (tt, tt)
handlers_are event.Block = (tt, tt)

abbrev two : ExprTree
two = number (pos 2)

-- victim.nr - self.nr >= 2, brought to one side, adds victim.nr and takes self.nr away
basic_adds : added (minus (minus (variable 2) (variable 0)) two) ≡ 2 ∷ []
basic_adds = refl

basic_takes : taken (minus (minus (variable 2) (variable 0)) two) ≡ 0 ∷ []
basic_takes = refl

basic_is : ComparesDifferences basic
basic_is = record {
  counts = refl;
  filter = record { scales = ((tt, tt), tt); adds = omega arith; takes = omega arith };
  handlers = handlers_are;
  batch = tt;
}

-- victim.nr >= self.nr + 2
moved_over : HasDifferences (test cmp.Ge (variable 2) (plus (variable 0) two))
moved_over = record { scales = (tt, (tt, tt)); adds = omega arith; takes = omega arith }

abbrev node : Attr
node = record { name = 110 ∷ []; lo = pos 0; hi = pos 1; start = pos 0 }

-- with an attribute of cores: self.node == victim.node or victim.nr - self.nr >= 3
abbrev near : Meaning
near = record (policy (either (test cmp.Eq (variable 6) (variable 14)) (test cmp.Ge (minus (variable 2) (variable 0)) (number (pos 3))))) { core_attrs = node ∷ [] }

near_is : ComparesDifferences near
near_is = record {
  counts = refl;
  filter = (
    record { scales = (tt, tt); adds = omega arith; takes = omega arith },
    record { scales = ((tt, tt), tt); adds = omega arith; takes = omega arith },
  );
  handlers = handlers_are;
  batch = tt;
}

-- while victim.load - self.load > t.weight
goes_on_is : ComparesDifferences (batched load.Count (test cmp.Gt (minus (variable 3) (variable 1)) (variable 4)))
goes_on_is = record {
  counts = refl;
  filter = tt;
  handlers = handlers_are;
  batch = record { scales = ((tt, tt), tt); adds = omega arith; takes = omega arith };
}

-- 2 * victim.nr > 3
product_is_none : HasDifferences (test cmp.Gt (times two (variable 2)) (number (pos 3))) → ⊥
product_is_none is = true≢false (sym is.scales.0.1)

-- self.nr + victim.nr >= 2
sum_is_none : HasDifferences (test cmp.Ge (plus (variable 0) (variable 2)) two) → ⊥
sum_is_none is = let few = is.adds in omega arith

-- loads that are sums of weights
weights_are_none : ComparesDifferences (batched (load.Weight 1 8) always) → ⊥
weights_are_none is = let other = is.counts in let clash : ⊥ = cc in clash
