-- 128 bits have each part of a linear expression.
use Rattle.std.proofs.Common.{◌≡◌, ◌≤◌, ℕ, zero, suc, ℤ, pos, ◌+ℤ◌, ◌-ℤ◌, ◌*ℤ◌, neg_ℤ, ◌≤ℤ◌, int_le, Bool, true, ◌&&◌, List, [], ◌∷◌, unsigned_abs, refl, ap, ap₂, subst, arith}
use Rattle.std.specs.Int.{int_max, int_min}
use Rattle.std.proofs.lemmas.Bool.{and_parts}
use Rattle.std.proofs.lemmas.Int.{ints, clamps}
use Rattle.policy_tree.specs.Trees.{ExprTree, number, variable, negation, plus, minus, times}
use Rattle.policy_eval.specs.Forms.{IsLinear}
use Rattle.policy_eval.specs.Ranges.{AreIn, IsIn, Range, wide_ranges}
use Rattle.policy_eval.specs.Values.{Assignment, value_of, variable_of}
use Rattle.policy_eval.proofs.Bounds.{value_below}
use Rattle.c_printer.specs.declared.words.Width.TheVariants as width
use Rattle.c_printer.specs.WidthLaws.{PartsAreBelow, VariablesAreIn, greatest_of, range_at}

-- the number brought into the range
clamped : Range → ℤ → ℤ
clamped r x = int_max r.low (int_min x r.high)

clamped-in : (r : Range) (x : ℤ) → r.low ≤ℤ r.high → IsIn r (clamped r x)
unfolding clamped
clamped-in r x ordered = record { above = omega (arith, ints, clamps); below = omega (arith, ints, clamps) }

clamped-same : (r : Range) (x : ℤ) → IsIn r x → clamped r x ≡ x
unfolding clamped
clamped-same r x is = let low = is.above in let high = is.below in omega (arith, ints, clamps)

-- all values brought into their ranges, and 0 where there is none
all_clamped : List Range → List ℤ → List ℤ
all_clamped [] xs = []
all_clamped (r ∷ rs) [] = clamped r (pos 0) ∷ all_clamped rs []
all_clamped (r ∷ rs) (x ∷ xs) = clamped r x ∷ all_clamped rs xs

all_ordered : List Range → Bool
all_ordered [] = true
all_ordered (r ∷ rs) = int_le r.low r.high && all_ordered rs

ordered_of : (a b : ℤ) → int_le a b ≡ true → a ≤ℤ b
ordered_of a b e = grind (arith, ints)

all_clamped-in : (rs : List Range) (xs : List ℤ) → all_ordered rs ≡ true → AreIn rs (all_clamped rs xs)
unfolding all_clamped all_ordered
all_clamped-in [] xs test = tt
all_clamped-in (r ∷ rs) [] test =
    let parts = and_parts (int_le r.low r.high) (all_ordered rs) test in
    (clamped-in r (pos 0) (ordered_of r.low r.high parts.0), all_clamped-in rs [] parts.1)
all_clamped-in (r ∷ rs) (x ∷ xs) test =
    let parts = and_parts (int_le r.low r.high) (all_ordered rs) test in
    (clamped-in r x (ordered_of r.low r.high parts.0), all_clamped-in rs xs parts.1)

same_variable : (rs : List Range) (xs : List ℤ) (at : ℕ) → IsIn (range_at rs at) (variable_of xs at) → variable_of (all_clamped rs xs) at ≡ variable_of xs at
unfolding all_clamped
same_variable [] xs at is = let low = is.above in let high = is.below in omega (arith, ints)
same_variable (r ∷ rs) [] zero is = clamped-same r (pos 0) is
same_variable (r ∷ rs) [] (suc at) is = same_variable rs [] at is
same_variable (r ∷ rs) (x ∷ xs) zero is = clamped-same r x is
same_variable (r ∷ rs) (x ∷ xs) (suc at) is = same_variable rs xs at is

same_value : (rs : List Range) (xs : Assignment) (e : ExprTree) → VariablesAreIn rs xs e → value_of (all_clamped rs xs) e ≡ value_of xs e
same_value rs xs (number n) are = refl
same_value rs xs (variable at) are = same_variable rs xs at are
same_value rs xs (negation e) are = ap neg_ℤ (same_value rs xs e are)
same_value rs xs (plus l r) are = ap₂ (λ x y. x +ℤ y) (same_value rs xs l are.0) (same_value rs xs r are.1)
same_value rs xs (minus l r) are = ap₂ (λ x y. x -ℤ y) (same_value rs xs l are.0) (same_value rs xs r are.1)
same_value rs xs (times l r) are = ap₂ (λ x y. x *ℤ y) (same_value rs xs l are.0) (same_value rs xs r are.1)

wide_ordered : all_ordered wide_ranges ≡ true
unfolding wide_ranges all_ordered
wide_ordered = refl

module _ (xs : Assignment) where
  value_small : (e : ExprTree) → IsLinear e → VariablesAreIn wide_ranges xs e → unsigned_abs (value_of xs e) ≤ greatest_of width.Wide
  value_small e linear are =
      subst (λ x. unsigned_abs x ≤ greatest_of width.Wide) (same_value wide_ranges xs e are)
      (let below = value_below e linear (all_clamped wide_ranges xs) (all_clamped-in wide_ranges xs wide_ordered) in omega arith)

  pub parts_small : (e : ExprTree) → IsLinear e → VariablesAreIn wide_ranges xs e → PartsAreBelow (greatest_of width.Wide) xs e
  parts_small (number n) linear are = value_small (number n) linear are
  parts_small (variable at) linear are = value_small (variable at) linear are
  parts_small (negation e) linear are = (value_small (negation e) linear are, parts_small e linear.0 are)
  parts_small (plus l r) linear are =
      (value_small (plus l r) linear are, (parts_small l linear.0 are.0, parts_small r linear.1 are.1))
  parts_small (minus l r) linear are =
      (value_small (minus l r) linear are, (parts_small l linear.0 are.0, parts_small r linear.1 are.1))
  parts_small (times l r) linear are =
      (value_small (times l r) linear are, (parts_small l linear.0 are.0, parts_small r linear.1 are.1))
