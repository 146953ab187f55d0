-- What the text says of a handler's values: it is so of every thread in its ranges.
use Rattle.std.proofs.Common.{◌≡◌, ℕ, suc, ◌+◌, ◌-◌, ◌≤◌, ◌⊎◌, inl, inr, eqb, ℤ, pos, ◌<ℤ◌, ◌≤ℤ◌, Bool, true, false, not, ◌&&◌, ◌||◌, cond, List, [], ◌∷◌, ◌++◌, length, map, replicate, slice_index_or, Option, Some, None, refl, sym, ap, ◌∙◌, arith}
use Rattle.std.proofs.lemmas.Bool.{and_left, and_parts, and_right, eqb-true, not-true, not_from_false, not_from_true, or_cases, or_from, or_left, or_right, and_from}
use Rattle.std.proofs.lemmas.Int.{ints}
use Rattle.std.proofs.lemmas.List.{get_or-append-add, length-append, length-map, length-replicate}
use Rattle.std.specs.List.{AllZip}
use Rattle.sched_base.specs.declared.task.Task.{Task}
use Rattle.policy_tree.specs.declared.trees.Cmp.{Cmp}
use Rattle.policy_tree.specs.declared.typed.Attr.{Attr}
use Rattle.policy_tree.specs.Meaning.{Meaning}
use Rattle.policy_tree.specs.Trees.{ExprTree, number, variable, negation, plus, minus, times, CondTree, always, negated, both, either, test}
use Rattle.policy_eval.specs.Events.{seen_by_handler}
use Rattle.policy_eval.specs.Fitting.{IsTask}
use Rattle.policy_eval.specs.Ranges.{AreIn, IsIn, Range, attribute_ranges, declared_range, range}
use Rattle.policy_eval.specs.Resolved.{IsResolved}
use Rattle.policy_eval.specs.Sights.{event_values, no_attributes}
use Rattle.policy_eval.specs.Values.{Assignment, compared, holds, value_of, variable_of}
use Rattle.waiting_laws.specs.Slices.{value_in}
use Rattle.wait_classes.specs.Attributes.{differs, is_attribute, is_positive, known, lowers, never, raises}

as_long : (ranges : List Range) (numbers : List ℤ) → AllZip IsIn ranges numbers → length ranges ≡ length numbers
as_long [] [] each = refl
as_long [] (x ∷ xs) each = absurd each
as_long (r ∷ rs) [] each = absurd each
as_long (r ∷ rs) (x ∷ xs) each = ap suc (as_long rs xs each.1)

ranges_long : (attrs : List Attr) → length attrs ≤ 8 → length (attribute_ranges attrs) ≡ 8
ranges_long attrs few =
    let long = length-append (map declared_range attrs) (replicate (8 - length attrs) (range (pos 0) (pos 0))) in
    let each = length-map attrs declared_range in
    let rest = length-replicate (8 - length attrs) (range (pos 0) (pos 0)) in
    omega arith

-- the variable of an attribute has the attribute's value
attribute_seen : (a : ℕ) (consts : List ℤ) (t : Task) → length consts ≡ 8 → variable_of (seen_by_handler false consts t) (22 + a) ≡ value_in a t
unfolding event_values
attribute_seen a consts t long =
    let front : List ℤ = pos 0 ∷ pos 0 ∷ pos 0 ∷ pos 0 ∷ pos t.weight ∷ pos 0 ∷ (consts ++ no_attributes) in
    let at : 22 + a ≡ length front + a = let both = length-append consts no_attributes in omega arith in
    ap (λ n. slice_index_or (front ++ t.attrs) n (pos 0)) at ∙ get_or-append-add front t.attrs a (pos 0)

weight_seen : (consts : List ℤ) (t : Task) → variable_of (seen_by_handler false consts t) 4 ≡ pos t.weight
unfolding event_values
weight_seen consts t = refl

one_false : (A B : Type 0) (x y : Bool) → (A → x ≡ false) → (B → y ≡ false) → A ⊎ B → (x && y) ≡ false
one_false A B x y first second (inl is) = and_left x y (first is)
one_false A B x y first second (inr is) = and_right x y (second is)

one_true : (A B : Type 0) (x y : Bool) → (A → x ≡ true) → (B → y ≡ true) → A ⊎ B → (x || y) ≡ true
one_true A B x y first second (inl is) = or_left x y (first is)
one_true A B x y first second (inr is) = or_right x y (second is)

module _ (a : ℕ) (seen : Assignment) (v : ℤ) (is : variable_of seen (22 + a) ≡ v) where
  attribute_is : (e : ExprTree) → is_attribute a e ≡ true → value_of seen e ≡ v
  attribute_is (number n) found = absurd (cc)
  attribute_is (variable at) found = ap (variable_of seen) (eqb-true at (22 + a) found) ∙ is
  attribute_is (negation e) found = absurd (cc)
  attribute_is (plus l r) found = absurd (cc)
  attribute_is (minus l r) found = absurd (cc)
  attribute_is (times l r) found = absurd (cc)

  -- what is known of a value is so where the attribute has that value
  known_is : (e : ExprTree) (x : ℤ) → known a v e ≡ Some x → value_of seen e ≡ x
  known_is (number n) x found = cc
  known_is (variable at) x found = by (eqb at (22 + a)) (λ same. ap (variable_of seen) (eqb-true at (22 + a) same) ∙ is) found
    where
      by : (same : Bool) → (same ≡ true → variable_of seen at ≡ v) → cond same (Some v) None ≡ Some x → variable_of seen at ≡ x
      by true value some = let gives = value refl in cc
      by false value some = absurd (cc)
  known_is (negation e) x found = absurd (cc)
  known_is (plus l r) x found = absurd (cc)
  known_is (minus l r) x found = absurd (cc)
  known_is (times l r) x found = absurd (cc)

  differs_is : (outcome : Bool) (how : Cmp) (l r : ExprTree) (left right : Option ℤ) → known a v l ≡ left → known a v r ≡ right → differs outcome how left right ≡ true
      → compared how (value_of seen l) (value_of seen r) ≡ not outcome
  differs_is true how l r (Some x) (Some y) left right is_true =
      let first = known_is l x left in let second = known_is r y right in
      ap (λ z. compared how z (value_of seen r)) first ∙ (ap (compared how x) second ∙ not-true (compared how x y) is_true)
  differs_is false how l r (Some x) (Some y) left right is_true =
      let first = known_is l x left in let second = known_is r y right in
      ap (λ z. compared how z (value_of seen r)) first ∙ (ap (compared how x) second ∙ is_true)
  differs_is true how l r (Some x) None left right is_true = absurd (cc)
  differs_is false how l r (Some x) None left right is_true = absurd (cc)
  differs_is true how l r None right left is_right is_true = absurd (cc)
  differs_is false how l r None right left is_right is_true = absurd (cc)

  -- a condition that is found never to have the outcome has the other
  pub never_is : (outcome : Bool) (c : CondTree) → never a v outcome c ≡ true → holds seen c ≡ not outcome
  never_is true always found = absurd (cc)
  never_is false always found = refl
  never_is true (negated c) found = not_from_true (holds seen c) (never_is false c found)
  never_is false (negated c) found = not_from_false (holds seen c) (never_is true c found)
  never_is true (both l r) found =
      one_false (never a v true l ≡ true) (never a v true r ≡ true) (holds seen l) (holds seen r)
      (λ first. never_is true l first) (λ second. never_is true r second) (or_cases (never a v true l) (never a v true r) found)
  never_is false (both l r) found =
      let parts = and_parts (never a v false l) (never a v false r) found in
      and_from (holds seen l) (holds seen r) (never_is false l parts.0) (never_is false r parts.1)
  never_is true (either l r) found =
      let parts = and_parts (never a v true l) (never a v true r) found in
      or_from (holds seen l) (holds seen r) (never_is true l parts.0) (never_is true r parts.1)
  never_is false (either l r) found =
      one_true (never a v false l ≡ true) (never a v false r ≡ true) (holds seen l) (holds seen r)
      (λ first. never_is false l first) (λ second. never_is false r second) (or_cases (never a v false l) (never a v false r) found)
  never_is outcome (test how l r) found = differs_is outcome how l r (known a v l) (known a v r) refl refl found

  module _ (weight : ℕ) (heavy : variable_of seen 4 ≡ pos weight) (some : 1 ≤ weight) where
    positive_is : (e : ExprTree) → is_positive e ≡ true → pos 0 <ℤ value_of seen e
    positive_is (number n) found = grind (arith, ints)
    positive_is (variable at) found =
        let same : variable_of seen at ≡ pos weight = ap (variable_of seen) (eqb-true at 4 found) ∙ heavy in omega (arith, ints)
    positive_is (negation e) found = absurd (cc)
    positive_is (plus l r) found = absurd (cc)
    positive_is (minus l r) found = absurd (cc)
    positive_is (times l r) found = absurd (cc)

    pub lowers_is : (low : ℤ) (e : ExprTree) → lowers a low e ≡ true → (value_of seen e <ℤ v) ⊎ (value_of seen e ≤ℤ low)
    lowers_is low (number n) found = inr (grind (arith, ints))
    lowers_is low (variable at) found = absurd (cc)
    lowers_is low (negation e) found = absurd (cc)
    lowers_is low (plus l r) found = absurd (cc)
    lowers_is low (minus l r) found =
        let parts = and_parts (is_attribute a l) (is_positive r) found in
        let first = attribute_is l parts.0 in let second = positive_is r parts.1 in
        inl (omega (arith, ints))
    lowers_is low (times l r) found = absurd (cc)

    pub raises_is : (high : ℤ) (e : ExprTree) → raises a high e ≡ true → (v <ℤ value_of seen e) ⊎ (high ≤ℤ value_of seen e)
    raises_is high (number n) found = inr (grind (arith, ints))
    raises_is high (variable at) found = absurd (cc)
    raises_is high (negation e) found = absurd (cc)
    raises_is high (plus l r) found =
        let parts = and_parts (is_attribute a l) (is_positive r) found in
        let first = attribute_is l parts.0 in let second = positive_is r parts.1 in
        inl (omega (arith, ints))
    raises_is high (minus l r) found = absurd (cc)
    raises_is high (times l r) found = absurd (cc)

module _ (p : Meaning) (resolved : IsResolved p) (consts : List ℤ) (t : Task) (in_range : AreIn (attribute_ranges p.core_attrs) consts) (task : IsTask p t) where
  pub sees_attribute : (a : ℕ) → variable_of (seen_by_handler false consts t) (22 + a) ≡ value_in a t
  sees_attribute a = attribute_seen a consts t (sym (as_long (attribute_ranges p.core_attrs) consts in_range) ∙ ranges_long p.core_attrs resolved.core_attrs.few)

  pub sees_weight : variable_of (seen_by_handler false consts t) 4 ≡ pos t.weight
  sees_weight = weight_seen consts t

  pub weighs : 1 ≤ t.weight
  weighs = let least = task.weight.least in let positive = resolved.load.positive in omega arith
