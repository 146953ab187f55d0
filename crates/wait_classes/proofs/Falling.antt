-- Where a case keeps its thread only if it lowers the attribute, it does so of every thread in its ranges.
use Rattle.std.proofs.Common.{◌≡◌, ℕ, ◌⊎◌, inl, inr, ℤ, ◌<ℤ◌, ◌≤ℤ◌, Bool, true, false, not, ◌||◌, ◌&&◌, List, slice_get, Some, refl, sym, ◌∙◌, subst, arith, true≢false}
use Rattle.std.proofs.lemmas.Bool.{and_parts}
use Rattle.std.proofs.lemmas.Int.{ints, clamps, by_lt_z}
use Rattle.std.specs.List.{list_all, list_any}
use Rattle.sched_base.specs.declared.task.Task.{Task}
use Rattle.policy_tree.specs.declared.typed.Attr.{Attr}
use Rattle.policy_tree.specs.declared.typed.Put.{Put}
use Rattle.policy_tree.specs.declared.typed.Put.TheVariants as put
use Rattle.policy_tree.specs.Meaning.{CaseTree, Meaning, SetTree}
use Rattle.policy_eval.specs.Events.{saturated, seen_by_handler, task_after_set}
use Rattle.policy_eval.specs.Fitting.{IsTask}
use Rattle.policy_eval.specs.Ranges.{AreIn, IsIn, attribute_ranges, declared_range}
use Rattle.policy_eval.specs.Resolved.{IsResolved}
use Rattle.policy_eval.specs.Values.{Holds, value_of}
use Rattle.waiting_laws.specs.Slices.{LowersIfKeeping, value_in}
use Rattle.wait_classes.specs.declared.attributes.Aim.TheVariants as aim
use Rattle.wait_classes.specs.declared.rules.Rule.TheVariants as rule
use Rattle.wait_classes.specs.Attributes.{is_moved, lowers, moves_or_leaves, never, sets_it}
use Rattle.wait_classes.specs.Rules.{is_keep, obeys}
use Rattle.wait_classes.proofs.Moved.{in_its_range, set_value, together}
use Rattle.wait_classes.proofs.Seen.{lowers_is, never_is, sees_attribute, sees_weight, weighs}

-- the value never rises, and falls unless it is at the lower end
Lowers : ℤ → ℤ → ℤ → Type 0
Lowers low x y = (y ≤ℤ x) × (low <ℤ x → y <ℤ x)

lowered : (d : Attr) (v x : ℤ) → IsIn (declared_range d) v → (x <ℤ v) ⊎ (x ≤ℤ d.lo) → Lowers d.lo v (saturated d x)
unfolding Lowers
lowered d v x inside (inl less) =
    let low = inside.above in let high = inside.below in
    (omega (arith, ints, clamps), λ above. omega (arith, ints, clamps))
lowered d v x inside (inr most) =
    let low = inside.above in let high = inside.below in
    (omega (arith, ints, clamps), λ above. omega (arith, ints, clamps))

kept : (where_to : Put) → where_to ≡ put.Keep → is_keep where_to ≡ true
kept put.Queue is = absurd (cc)
kept put.Keep is = refl
kept put.Block is = absurd (cc)

first_of_two : (kept rest : Bool) → kept ≡ true → (not kept || rest) ≡ true → rest ≡ true
first_of_two true rest is either = either
first_of_two false rest is either = absurd (true≢false (sym is))

module _ (p : Meaning) (resolved : IsResolved p) (a : ℕ) (d : Attr) (found : slice_get p.thread_attrs a ≡ Some d) where
  set_lowers : (consts : List ℤ) → AreIn (attribute_ranges p.core_attrs) consts → (s : SetTree) (t : Task) → IsTask p t → s.attr ≡ a → lowers a d.lo s.expr ≡ true
      → Lowers d.lo (value_in a t) (value_in a (task_after_set p false consts t s))
  set_lowers consts in_range s t task is passes =
      subst (Lowers d.lo (value_in a t)) (sym (set_value p resolved a d found consts s t task is))
      (lowered d (value_in a t) (value_of (seen_by_handler false consts t) s.expr) (in_its_range p resolved a d found t task)
      (lowers_is a (seen_by_handler false consts t) (value_in a t) (sees_attribute p resolved consts t in_range task a) t.weight (sees_weight p resolved consts t in_range task)
      (weighs p resolved consts t in_range task) d.lo s.expr passes))

  -- a guard that can't hold at the lower end holds only above it
  above_low : (consts : List ℤ) (t : Task) → AreIn (attribute_ranges p.core_attrs) consts → IsTask p t → (c : CaseTree) → never a d.lo true c.guard ≡ true
      → Holds (seen_by_handler false consts t) c.guard → d.lo <ℤ value_in a t
  above_low consts t in_range task c none guard =
      by_lt_z d.lo (value_in a t) (λ above. above)
      (λ at_most. let inside = (in_its_range p resolved a d found t task).above in
      let same : value_in a t ≡ d.lo = omega (arith, ints) in
      let fails = never_is a (seen_by_handler false consts t) d.lo (sees_attribute p resolved consts t in_range task a ∙ same) true c.guard none in
      absurd (true≢false (sym guard ∙ fails)))

  pub case_lowers : (c : CaseTree) → obeys (rule.Falls a d.lo) c ≡ true → LowersIfKeeping p a c
  unfolding Lowers
  case_lowers c obeyed keeping consts t in_range task guard =
      let falls = first_of_two (is_keep c.put) (never a d.lo true c.guard && is_moved a (aim.Down d.lo) c.sets) (kept c.put keeping) obeyed in
      let parts = and_parts (never a d.lo true c.guard) (is_moved a (aim.Down d.lo) c.sets) falls in
      let moved = and_parts (list_any (sets_it a) c.sets) (list_all (moves_or_leaves a (aim.Down d.lo)) c.sets) parts.1 in
      (together p resolved a d found (Lowers d.lo) (λ x y. y ≤ℤ x) (λ x. omega (arith, ints)) (λ x y inside does. does.0) (λ x y z first second. omega (arith, ints))
      (λ x y z inside does allowed. (let first = does.0 in omega (arith, ints), λ above. let first = does.1 above in omega (arith, ints)))
      consts (λ (s : SetTree). lowers a d.lo s.expr) (set_lowers consts in_range) c.sets t task moved.0 moved.1).1
      (above_low consts t in_range task c parts.0 guard)
