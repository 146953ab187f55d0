-- What assignments make of one attribute's value.
use Rattle.std.proofs.Common.{◌≡◌, ℕ, zero, suc, ◌-◌, eqb, ℤ, pos, ◌≤ℤ◌, Bool, true, false, not, ◌||◌, List, [], ◌∷◌, ◌++◌, length, map, replicate, fold, All, slice_get, slice_set, slice_index_or, Option, Some, None, option_map, refl, sym, ap, ◌∙◌, subst, arith}
use Rattle.std.proofs.lemmas.Bool.{and_parts, eqb-true, eqb-false}
use Rattle.std.proofs.lemmas.Int.{ints}
use Rattle.std.proofs.lemmas.List.{get_or-set_other}
use Rattle.std.specs.List.{AllZip, list_all, list_any}
use Rattle.sched_base.specs.declared.limits.TheConstants.{MAX_ATTRIBUTES}
use Rattle.sched_base.specs.declared.task.Task.{Task}
use Rattle.policy_tree.specs.declared.typed.Attr.{Attr}
use Rattle.policy_tree.specs.Meaning.{Meaning, SetTree}
use Rattle.policy_eval.specs.Events.{saturated, seen_by_handler, task_after_set, with_attribute}
use Rattle.policy_eval.specs.Fitting.{IsTask}
use Rattle.policy_eval.specs.Ranges.{IsIn, Range, declared_range, range}
use Rattle.policy_eval.specs.Resolved.{IsAttribute, IsResolved}
use Rattle.policy_eval.specs.Values.{value_of}
use Rattle.policy_eval.proofs.Wide.{IsTask-set}
use Rattle.waiting_laws.specs.Slices.{value_in}
use Rattle.waiting_laws.proofs.WaitingRanges.{value_in_range}

-- the value that is written in an attribute's place stands there
written : (attrs : List Attr) (more : List Range) (values : List ℤ) (a : ℕ) (d : Attr) (x : ℤ) → slice_get attrs a ≡ Some d
    → AllZip IsIn (map declared_range attrs ++ more) values → slice_index_or (slice_set values a x) a (pos 0) ≡ x
written [] more values a d x found each = absurd (cc)
written (b ∷ attrs) more [] a d x found each = absurd each
written (b ∷ attrs) more (v ∷ values) zero d x found each = refl
written (b ∷ attrs) more (v ∷ values) (suc a) d x found each = written attrs more values a d x found each.1

pub ordered : (attrs : List Attr) (a : ℕ) (d : Attr) → All IsAttribute attrs → slice_get attrs a ≡ Some d → d.lo ≤ℤ d.hi
ordered [] a d each found = absurd (cc)
ordered (b ∷ attrs) zero d each found =
    let same : b ≡ d = cc in
    subst (λ (e : Attr). e.lo ≤ℤ e.hi) same (let is = each 0 b (omega arith) in let low = is.from_low in let high = is.to_high in omega (arith, ints))
ordered (b ∷ attrs) (suc a) d each found = ordered attrs a d (λ k e inside. each (suc k) e (omega arith)) found

module _ (p : Meaning) (resolved : IsResolved p) (a : ℕ) (d : Attr) (found : slice_get p.thread_attrs a ≡ Some d) where
  pub ends : d.lo ≤ℤ d.hi
  ends = ordered p.thread_attrs a d resolved.thread_attrs.each found

  pub in_its_range : (t : Task) → IsTask p t → IsIn (declared_range d) (value_in a t)
  in_its_range t task = value_in_range p a (declared_range d) (ap (option_map declared_range) found) t task

  with_value : (get : Option Attr) (at : ℕ) (x : ℤ) (t : Task) → IsTask p t → at ≡ a → get ≡ Some d → value_in a (with_attribute get at x t) ≡ saturated d x
  with_value None at x t task is got = absurd (cc)
  with_value (Some b) at x t task is got =
      let same : b ≡ d = cc in
      ap (λ n. slice_index_or (slice_set t.attrs n (saturated b x)) a (pos 0)) is
      ∙ (written p.thread_attrs (replicate (MAX_ATTRIBUTES - length p.thread_attrs) (range (pos 0) (pos 0))) t.attrs a d (saturated b x) found task.attrs ∙ ap (λ (e : Attr). saturated e x) same)

  other_value : (get : Option Attr) (at : ℕ) (x : ℤ) (t : Task) → (at ≡ a → ⊥) → value_in a (with_attribute get at x t) ≡ value_in a t
  other_value None at x t other = refl
  other_value (Some b) at x t other = get_or-set_other t.attrs at a (saturated b x) (pos 0) (λ is. other (sym is))

  module _ (consts : List ℤ) (s : SetTree) (t : Task) (task : IsTask p t) where
    -- an assignment to the attribute gives it the value, brought into its range
    pub set_value : s.attr ≡ a → value_in a (task_after_set p false consts t s) ≡ saturated d (value_of (seen_by_handler false consts t) s.expr)
    unfolding task_after_set
    set_value is =
        with_value (slice_get p.thread_attrs s.attr) s.attr (value_of (seen_by_handler false consts t) s.expr) t task is (ap (slice_get p.thread_attrs) is ∙ found)

    -- one to another attribute leaves it
    pub left_value : (s.attr ≡ a → ⊥) → value_in a (task_after_set p false consts t s) ≡ value_in a t
    unfolding task_after_set
    left_value other = other_value (slice_get p.thread_attrs s.attr) s.attr (value_of (seen_by_handler false consts t) s.expr) t other

  -- what each assignment to the attribute does, at least one of them does together with all that come behind it
  module _ (Does Allows : ℤ → ℤ → Type 0) (same : (x : ℤ) → Allows x x)
      (weaker : (x y : ℤ) → IsIn (declared_range d) x → Does x y → Allows x y)
      (goes_on : (x y z : ℤ) → Allows x y → Allows y z → Allows x z)
      (still_does : (x y z : ℤ) → IsIn (declared_range d) z → Does x y → Allows y z → Does x z)
      (consts : List ℤ) (moves : SetTree → Bool)
      (does : (s : SetTree) (t : Task) → IsTask p t → s.attr ≡ a → moves s ≡ true → Does (value_in a t) (value_in a (task_after_set p false consts t s))) where
    after : SetTree → Task → Task
    after s t = task_after_set p false consts t s

    in_range_after : (s : SetTree) (t : Task) → IsTask p t → IsTask p (after s t)
    unfolding after
    in_range_after s t task = IsTask-set p resolved false consts t s task

    one : (s : SetTree) (t : Task) → IsTask p t → (test : Bool) → eqb s.attr a ≡ test → (not test || moves s) ≡ true → Allows (value_in a t) (value_in a (after s t))
    unfolding after
    one s t task true is passes = weaker _ _ (in_its_range t task) (does s t task (eqb-true s.attr a is) passes)
    one s t task false is passes = subst (Allows (value_in a t)) (sym (left_value consts s t task (eqb-false s.attr a is))) (same (value_in a t))

    all_allow : (sets : List SetTree) (t : Task) → IsTask p t → list_all (λ (s : SetTree). not (eqb s.attr a) || moves s) sets ≡ true
        → Allows (value_in a t) (value_in a (fold (task_after_set p false consts) t sets))
    unfolding after
    all_allow [] t task each = same (value_in a t)
    all_allow (s ∷ sets) t task each =
        let parts = and_parts (not (eqb s.attr a) || moves s) (list_all (λ (s : SetTree). not (eqb s.attr a) || moves s) sets) each in
        goes_on _ _ _ (one s t task (eqb s.attr a) refl parts.0) (all_allow sets (after s t) (in_range_after s t task) parts.1)

    all_in_range : (sets : List SetTree) (t : Task) → IsTask p t → IsTask p (fold (task_after_set p false consts) t sets)
    unfolding after
    all_in_range [] t task = task
    all_in_range (s ∷ sets) t task = all_in_range sets (after s t) (in_range_after s t task)

    pub together : (sets : List SetTree) (t : Task) → IsTask p t → list_any (λ (s : SetTree). eqb s.attr a) sets ≡ true
        → list_all (λ (s : SetTree). not (eqb s.attr a) || moves s) sets ≡ true → Does (value_in a t) (value_in a (fold (task_after_set p false consts) t sets))
    unfolding after
    together [] t task some each = absurd (cc)
    together (s ∷ sets) t task some each = by (eqb s.attr a) refl some parts.0 (λ later. together sets (after s t) (in_range_after s t task) later parts.1)
      where
        parts : ((not (eqb s.attr a) || moves s) ≡ true) × (list_all (λ (s : SetTree). not (eqb s.attr a) || moves s) sets ≡ true)
        parts = and_parts (not (eqb s.attr a) || moves s) (list_all (λ (s : SetTree). not (eqb s.attr a) || moves s) sets) each

        by : (test : Bool) → eqb s.attr a ≡ test → (test || list_any (λ (s : SetTree). eqb s.attr a) sets) ≡ true → (not test || moves s) ≡ true
            → (list_any (λ (s : SetTree). eqb s.attr a) sets ≡ true → Does (value_in a (after s t)) (value_in a (fold (task_after_set p false consts) (after s t) sets)))
            → Does (value_in a t) (value_in a (fold (task_after_set p false consts) (after s t) sets))
        by true is here passes rest =
            still_does _ _ _ (in_its_range _ (all_in_range sets (after s t) (in_range_after s t task))) (does s t task (eqb-true s.attr a is) passes) (all_allow sets (after s t) (in_range_after s t task) parts.1)
        by false is later passes rest =
            subst (λ x. Does x (value_in a (fold (task_after_set p false consts) (after s t) sets))) (left_value consts s t task (eqb-false s.attr a is)) (rest later)
