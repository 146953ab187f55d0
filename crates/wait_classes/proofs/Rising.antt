-- Where the assignments of a case raise the attribute, they do so of every thread in its ranges.
use Rattle.std.proofs.Common.{◌≡◌, ℕ, ◌⊎◌, inl, inr, ℤ, ◌<ℤ◌, ◌≤ℤ◌, true, false, List, slice_get, Some, sym, subst, arith}
use Rattle.std.proofs.lemmas.Bool.{and_parts}
use Rattle.std.proofs.lemmas.Int.{ints, clamps, by_lt_z}
use Rattle.std.specs.List.{list_all, list_any}
use Rattle.sched_base.specs.declared.task.Task.{Task}
use Rattle.policy_tree.specs.declared.typed.Attr.{Attr}
use Rattle.policy_tree.specs.Meaning.{CaseTree, Meaning, SetTree}
use Rattle.policy_eval.specs.Events.{saturated, seen_by_handler, task_after_set}
use Rattle.policy_eval.specs.Fitting.{IsTask}
use Rattle.policy_eval.specs.Ranges.{AreIn, IsIn, attribute_ranges, declared_range}
use Rattle.policy_eval.specs.Resolved.{IsResolved}
use Rattle.policy_eval.specs.Values.{value_of}
use Rattle.waiting_laws.specs.Least.{IsRaised, Raises}
use Rattle.waiting_laws.specs.Slices.{value_in}
use Rattle.wait_classes.specs.declared.attributes.Aim.TheVariants as aim
use Rattle.wait_classes.specs.Attributes.{is_moved, moves_or_leaves, raises, sets_it}
use Rattle.wait_classes.proofs.Moved.{ends, in_its_range, set_value, together}
use Rattle.wait_classes.proofs.Seen.{raises_is, sees_attribute, sees_weight, weighs}

raised : (d : Attr) (v x : ℤ) → d.lo ≤ℤ d.hi → IsIn (declared_range d) v → (v <ℤ x) ⊎ (d.hi ≤ℤ x) → IsRaised d.hi v (saturated d x)
raised d v x ordered inside (inr least) = inr (omega (arith, ints, clamps))
raised d v x ordered inside (inl more) =
    let low = inside.above in let high = inside.below in
    by_lt_z x d.hi (λ below. inl (omega (arith, ints, clamps))) (λ least. inr (omega (arith, ints, clamps)))

not_less : (high x y : ℤ) → x ≤ℤ high → IsRaised high x y → x ≤ℤ y
not_less high x y below (inl more) = omega (arith, ints)
not_less high x y below (inr top) = omega (arith, ints)

still_raised : (high x y z : ℤ) → z ≤ℤ high → IsRaised high x y → y ≤ℤ z → IsRaised high x z
still_raised high x y z below (inl more) on = inl (omega (arith, ints))
still_raised high x y z below (inr top) on = inr (omega (arith, ints))

module _ (p : Meaning) (resolved : IsResolved p) (a : ℕ) (d : Attr) (found : slice_get p.thread_attrs a ≡ Some d) where
  set_raises : (consts : List ℤ) → AreIn (attribute_ranges p.core_attrs) consts → (s : SetTree) (t : Task) → IsTask p t → s.attr ≡ a → raises a d.hi s.expr ≡ true
      → IsRaised d.hi (value_in a t) (value_in a (task_after_set p false consts t s))
  set_raises consts in_range s t task is passes =
      subst (IsRaised d.hi (value_in a t)) (sym (set_value p resolved a d found consts s t task is))
      (raised d (value_in a t) (value_of (seen_by_handler false consts t) s.expr) (ends p resolved a d found) (in_its_range p resolved a d found t task)
      (raises_is a (seen_by_handler false consts t) (value_in a t) (sees_attribute p resolved consts t in_range task a) t.weight (sees_weight p resolved consts t in_range task)
      (weighs p resolved consts t in_range task) d.hi s.expr passes))

  pub case_raises : (c : CaseTree) → is_moved a (aim.Up d.hi) c.sets ≡ true → Raises p a d.hi c
  case_raises c is consts t in_range task guard =
      let moved = and_parts (list_any (sets_it a) c.sets) (list_all (moves_or_leaves a (aim.Up d.hi)) c.sets) is in
      together p resolved a d found (IsRaised d.hi) (λ x y. x ≤ℤ y) (λ x. omega (arith, ints)) (λ x y inside does. not_less d.hi x y inside.below does) (λ x y z first second. omega (arith, ints))
      (λ x y z inside does allowed. still_raised d.hi x y z inside.below does allowed)
      consts (λ (s : SetTree). raises a d.hi s.expr) (set_raises consts in_range) c.sets t task moved.0 moved.1
