-- The ranges of a resolved policy lie in the ranges wide enough for every policy.
use Rattle.std.proofs.Common.{ℕ, zero, suc, ◌≤◌, ◌-◌, ℤ, pos, ◌≤ℤ◌, List, [], ◌∷◌, ◌++◌, length, map, replicate, All, subst, arith}
use Rattle.std.specs.List.{AllZip}
use Rattle.std.proofs.lemmas.Int.{ints}
use Rattle.sched_base.specs.declared.limits.TheConstants.{MAX_ATTRIBUTE}
use Rattle.policy_tree.specs.declared.typed.Attr.{Attr}
use Rattle.policy_tree.specs.Meaning.{Meaning}
use Rattle.policy_tree.specs.Trees.{ExprTree, number, variable, negation, plus, minus, times}
use Rattle.policy_eval.specs.Ranges.{IsIn, Range, attribute_ranges, declared_range, range, wide_ranges, within}
use Rattle.policy_eval.specs.Resolved.{AreAttributes, IsAttribute, IsResolved}
use Rattle.policy_eval.specs.Values.{Assignment, variable_of}
use Rattle.c_printer.specs.WidthLaws.{VariablesAreIn, range_at, variable_ranges}

-- a range inside another
record IsInside (inner outer : Range) : Type 0 where
  low : outer.low ≤ℤ inner.low
  high : inner.high ≤ℤ outer.high

IsIn-inside : (inner outer : Range) (x : ℤ) → IsInside inner outer → IsIn inner x → IsIn outer x
IsIn-inside inner outer x fits is =
    let a = fits.low in let b = fits.high in let d = is.above in let e = is.below in
    record { above = omega (arith, ints); below = omega (arith, ints) }

abbrev wide_attribute : Range
wide_attribute = within MAX_ATTRIBUTE

zeros_inside : (n : ℕ) → AllZip IsInside (replicate n (range (pos 0) (pos 0))) (replicate n wide_attribute)
zeros_inside zero = tt
zeros_inside (suc n) = (record { low = omega (arith, ints); high = omega (arith, ints) }, zeros_inside n)

attribute_inside : (a : Attr) → IsAttribute a → IsInside (declared_range a) wide_attribute
attribute_inside a is =
    let low = is.low in let up = is.from_low in let on = is.to_high in let high = is.high in
    record { low = omega (arith, ints); high = omega (arith, ints) }

declared_inside : (n : ℕ) (attrs : List Attr) → length attrs ≤ n → All IsAttribute attrs
    → AllZip IsInside (map declared_range attrs ++ replicate (n - length attrs) (range (pos 0) (pos 0))) (replicate n wide_attribute)
declared_inside n [] few each =
    subst (λ k. AllZip IsInside (replicate k (range (pos 0) (pos 0))) (replicate n wide_attribute)) (omega arith) (zeros_inside n)
declared_inside zero (a ∷ attrs) few each = absurd (omega arith)
declared_inside (suc n) (a ∷ attrs) few each = (
  attribute_inside a (each 0 a (omega arith)),
  subst (λ k. AllZip IsInside (map declared_range attrs ++ replicate k (range (pos 0) (pos 0))) (replicate n wide_attribute)) (omega arith)
      (declared_inside n attrs (omega arith) (λ k d inside. each (suc k) d (omega arith))),
)

attributes_inside : (attrs : List Attr) → AreAttributes attrs → AllZip IsInside (attribute_ranges attrs) (replicate 8 wide_attribute)
attributes_inside attrs are = declared_inside 8 attrs are.few are.each

joined : (rs ss ts us : List Range) → AllZip IsInside rs ss → AllZip IsInside ts us → AllZip IsInside (rs ++ ts) (ss ++ us)
joined [] [] ts us first second = second
joined [] (s ∷ ss) ts us first second = absurd first
joined (r ∷ rs) [] ts us first second = absurd first
joined (r ∷ rs) (s ∷ ss) ts us first second = (first.0, joined rs ss ts us first.1 second)

all_inside : (p : Meaning) → IsResolved p → AllZip IsInside (variable_ranges p) wide_ranges
unfolding wide_ranges
all_inside p is =
    let light = is.load.small in let positive = is.load.positive in
    let core = attributes_inside p.core_attrs is.core_attrs in let thread = attributes_inside p.thread_attrs is.thread_attrs in
    let of_cores = attribute_ranges p.core_attrs in let eight : List Range = replicate 8 wide_attribute in (
      record { low = omega (arith, ints); high = omega (arith, ints) },
      (
        record { low = omega (arith, ints); high = omega (arith, ints) },
        (
          record { low = omega (arith, ints); high = omega (arith, ints) },
          (
            record { low = omega (arith, ints); high = omega (arith, ints) },
            (
              record { low = omega (arith, ints); high = omega (arith, ints) },
              (
                record { low = omega (arith, ints); high = omega (arith, ints) },
                joined (of_cores ++ of_cores) (eight ++ eight) (attribute_ranges p.thread_attrs) eight
                    (joined of_cores eight of_cores eight core core) thread,
              ),
            ),
          ),
        ),
      ),
    )

inside_at : (rs ss : List Range) (at : ℕ) (x : ℤ) → AllZip IsInside rs ss → IsIn (range_at rs at) x → IsIn (range_at ss at) x
inside_at [] [] at x all is = is
inside_at [] (s ∷ ss) at x all is = absurd all
inside_at (r ∷ rs) [] at x all is = absurd all
inside_at (r ∷ rs) (s ∷ ss) zero x all is = IsIn-inside r s x all.0 is
inside_at (r ∷ rs) (s ∷ ss) (suc at) x all is = inside_at rs ss at x all.1 is

-- what lies in the ranges of a resolved policy lies in the wide ones
pub in_wide : (p : Meaning) → IsResolved p → (xs : Assignment) (e : ExprTree) → VariablesAreIn (variable_ranges p) xs e → VariablesAreIn wide_ranges xs e
in_wide p is xs (number n) are = tt
in_wide p is xs (variable at) are = inside_at (variable_ranges p) wide_ranges at (variable_of xs at) (all_inside p is) are
in_wide p is xs (negation e) are = in_wide p is xs e are
in_wide p is xs (plus l r) are = (in_wide p is xs l are.0, in_wide p is xs r are.1)
in_wide p is xs (minus l r) are = (in_wide p is xs l are.0, in_wide p is xs r are.1)
in_wide p is xs (times l r) are = (in_wide p is xs l are.0, in_wide p is xs r are.1)
