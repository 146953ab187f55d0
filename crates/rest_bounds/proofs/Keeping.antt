-- A filter each of whose comparisons keeps its outcome holds of the lower core too.
use Rattle.std.proofs.Common.{◌≡◌, ℕ, eqb, eqb-true, ℤ, ◌-ℤ◌, ◌≤ℤ◌, Bool, true, false, true≢false, ◌&&◌, ◌||◌, ◌⊎◌, inl, inr, List, length, Option, None, Some, refl, sym, ◌∙◌, arith}
use Rattle.std.proofs.lemmas.Int.{ints}
use Rattle.policy_tree.specs.declared.trees.Cmp.{Cmp}
use Rattle.policy_tree.specs.declared.trees.Cmp.TheVariants as cmp
use Rattle.policy_tree.specs.Meaning.{BatchTree, Meaning}
use Rattle.policy_tree.specs.Trees.{CondTree, ExprTree, always, both, either, minus, negated, test}
use Rattle.policy_eval.specs.declared.env.CoreValues.{CoreValues}
use Rattle.policy_eval.specs.Forms.{EachSide, IsLinear}
use Rattle.policy_eval.specs.Ranges.{AreIn, attribute_ranges, greatest_weight, least_weight}
use Rattle.policy_eval.specs.Resolved.{IsResolved}
use Rattle.policy_eval.specs.Sights.{pair_values}
use Rattle.policy_eval.specs.Values.{compared, holds, value_of}
use Rattle.obligations.proofs.Linear.{filter-linear}
use Rattle.obligations.proofs.Ranges.{AreIn-long, length-attribute_ranges}
use Rattle.obligations.proofs.Tests.{and_true, not_false, not_true, or_false, or_left, or_right, or_true, true_and}
use Rattle.rest_laws.specs.LowestFirst.{BatchLeavesSeen, LowerSeesAsMuch}
use Rattle.rest_laws.proofs.Gap.{equal_load}
use Rattle.rest_bounds.specs.Following.{is_own_multiple, keeps, moves_one, rises, stays, test_keeps}
use Rattle.rest_bounds.specs.Laws.{RaisesLowestLaw}
use Rattle.rest_bounds.proofs.Rising.{AreLower, own_multiple, rising}
use Rattle.rest_bounds.proofs.Slopes.{minus_form}

one_of : (a b : Bool) → (a && b) ≡ false → (a ≡ false) ⊎ (b ≡ false)
one_of true b e = inr e
one_of false b e = inl refl

false_and : (a b : Bool) → (a ≡ false) ⊎ (b ≡ false) → (a && b) ≡ false
false_and true b (inl e) = absurd (true≢false e)
false_and true b (inr e) = e
false_and false b e = refl

-- both outcomes of each side being kept as long as it is asked for, so is that of the two
and_kept : (outcome a b c d : Bool) → (a ≡ outcome → c ≡ outcome) → (b ≡ outcome → d ≡ outcome) → (a && b) ≡ outcome → (c && d) ≡ outcome
and_kept true a b c d first second is = let parts = and_true a b is in true_and c d (first parts.0) (second parts.1)
and_kept false a b c d first second is = by (one_of a b is)
  where
    by : (a ≡ false) ⊎ (b ≡ false) → (c && d) ≡ false
    by (inl e) = false_and c d (inl (first e))
    by (inr e) = false_and c d (inr (second e))

or_kept : (outcome a b c d : Bool) → (a ≡ outcome → c ≡ outcome) → (b ≡ outcome → d ≡ outcome) → (a || b) ≡ outcome → (c || d) ≡ outcome
or_kept true a b c d first second is = by (or_true a b is)
  where
    by : (a ≡ true) ⊎ (b ≡ true) → (c || d) ≡ true
    by (inl e) = or_left c d (first e)
    by (inr e) = or_right c d (second e)
or_kept false a b c d first second is = let parts = or_false a b is in grind (arith, first parts.0, second parts.1)

module _ (w : ℕ) (own victim lower seen : CoreValues) (are : AreLower w own victim lower seen) where
  before : ExprTree → ℤ
  before e = value_of (pair_values own victim) e

  after : ExprTree → ℤ
  after e = value_of (pair_values lower seen) e

  module _ (l r : ExprTree) (left : IsLinear l) (right : IsLinear r) where
    up : rises w (minus l r) ≡ true → (before l -ℤ before r) ≤ℤ (after l -ℤ after r)
    unfolding before after
    up is = rising w (minus l r) (minus_form l r left right) own victim lower seen are is

    down : rises w (minus r l) ≡ true → (before r -ℤ before l) ≤ℤ (after r -ℤ after l)
    unfolding before after
    down is = rising w (minus r l) (minus_form r l right left) own victim lower seen are is

    same : stays w l r ≡ true → (before l -ℤ before r) ≡ (after l -ℤ after r)
    same is =
        let parts = and_true (rises w (minus l r)) (rises w (minus r l)) is in
        let least = up parts.0 in let most = down parts.1 in
        omega (arith, ints)

    -- sides that were equal still are
    keeps_equal : (stays w l r || is_own_multiple w (minus l r)) ≡ true → before l ≡ before r → after l ≡ after r
    unfolding before after
    keeps_equal is equal = by (or_true (stays w l r) (is_own_multiple w (minus l r)) is)
      where
        by : (stays w l r ≡ true) ⊎ (is_own_multiple w (minus l r) ≡ true) → after l ≡ after r
        by (inl flat) = let change = same flat in omega (arith, ints)
        by (inr multiple) =
            let none = own_multiple w (minus l r) (minus_form l r left right) own victim lower seen are multiple (omega (arith, ints)) in
            omega (arith, ints)

    -- and sides that were not still are not
    keeps_other : stays w l r ≡ true → after l ≡ after r → before l ≡ before r
    keeps_other is equal = let change = same is in omega (arith, ints)

    -- a comparison keeps its outcome
    test_kept : (outcome : Bool) (how : Cmp) → test_keeps w outcome how l r ≡ true → compared how (before l) (before r) ≡ outcome → compared how (after l) (after r) ≡ outcome
    test_kept true cmp.Eq is held = let equal = keeps_equal is in grind (arith, ints)
    test_kept false cmp.Eq is held = let other = keeps_other is in grind (arith, ints)
    test_kept true cmp.Ne is held = let other = keeps_other is in grind (arith, ints)
    test_kept false cmp.Ne is held = let equal = keeps_equal is in grind (arith, ints)
    test_kept true cmp.Lt is held = let change = down is in grind (arith, ints)
    test_kept false cmp.Lt is held = let change = up is in grind (arith, ints)
    test_kept true cmp.Le is held = let change = down is in grind (arith, ints)
    test_kept false cmp.Le is held = let change = up is in grind (arith, ints)
    test_kept true cmp.Gt is held = let change = up is in grind (arith, ints)
    test_kept false cmp.Gt is held = let change = down is in grind (arith, ints)
    test_kept true cmp.Ge is held = let change = up is in grind (arith, ints)
    test_kept false cmp.Ge is held = let change = down is in grind (arith, ints)

  -- so does a condition
  kept : (outcome : Bool) (c : CondTree) → EachSide IsLinear c → keeps w outcome c ≡ true → holds (pair_values own victim) c ≡ outcome → holds (pair_values lower seen) c ≡ outcome
  unfolding before after
  kept outcome always sides is held = held
  kept true (negated c) sides is held =
      let inner = kept false c sides is (not_false (holds (pair_values own victim) c) held) in grind (arith, inner)
  kept false (negated c) sides is held =
      let inner = kept true c sides is (not_true (holds (pair_values own victim) c) held) in grind (arith, inner)
  kept outcome (both l r) sides is held =
      let parts = and_true (keeps w outcome l) (keeps w outcome r) is in
      and_kept outcome (holds (pair_values own victim) l) (holds (pair_values own victim) r) (holds (pair_values lower seen) l) (holds (pair_values lower seen) r)
      (kept outcome l sides.0 parts.0) (kept outcome r sides.1 parts.1) held
  kept outcome (either l r) sides is held =
      let parts = and_true (keeps w outcome l) (keeps w outcome r) is in
      or_kept outcome (holds (pair_values own victim) l) (holds (pair_values own victim) r) (holds (pair_values lower seen) l) (holds (pair_values lower seen) r)
      (kept outcome l sides.0 parts.0) (kept outcome r sides.1 parts.1) held
  kept outcome (test how l r) sides is held = test_kept l r sides.0 sides.1 outcome how is held

module _ (p : Meaning) (is : IsResolved p) (same : least_weight p.load ≡ greatest_weight p.load) where
  eight : (consts : List ℤ) → AreIn (attribute_ranges p.core_attrs) consts → length consts ≡ 8
  eight consts are = AreIn-long (attribute_ranges p.core_attrs) consts are ∙ length-attribute_ranges p.core_attrs is.core_attrs.few

  as_much : keeps (least_weight p.load) true p.filter ≡ true → LowerSeesAsMuch p
  as_much kept_by own victim lower seen own_fits victim_fits lower_fits seen_fits alike sees fewer far =
      let are : AreLower (least_weight p.load) own victim lower seen = record {
        own_weighs = equal_load p same own.nr own.load own_fits.loads;
        victim_weighs = equal_load p same victim.nr victim.load victim_fits.loads;
        lower_weighs = equal_load p same lower.nr lower.load lower_fits.loads;
        seen_weighs = equal_load p same seen.nr seen.load seen_fits.loads;
        own_long = eight own.consts own_fits.consts;
        victim_long = eight victim.consts victim_fits.consts;
        lower_long = eight lower.consts lower_fits.consts;
        seen_long = eight seen.consts seen_fits.consts;
        alike = alike;
        fewer = fewer;
        far = far;
      } in
      kept (least_weight p.load) own victim lower seen are true p.filter (filter-linear p is) kept_by sees

-- where a steal moves one thread, no batch goes on
one_thread : (p : Meaning) (batch : Option BatchTree) → moves_one batch ≡ true → BatchLeavesSeen p batch
one_thread p None one = tt
one_thread p (Some batch) one = absurd (true≢false (sym one))

pub raises_law : RaisesLowestLaw
raises_law p is found =
    let first = and_true (eqb (least_weight p.load) (greatest_weight p.load)) _ found in
    let second = and_true (moves_one p.batch) (keeps (least_weight p.load) true p.filter) first.1 in
    let same : least_weight p.load ≡ greatest_weight p.load = eqb-true (least_weight p.load) (greatest_weight p.load) first.0 in
    record { equal_weights = same; filter = as_much p is same second.1; batch = one_thread p p.batch second.0 }
