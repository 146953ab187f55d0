-- The ranges of all variables: there are thirty, none is empty, and values lie in them place by place.
use Rattle.std.proofs.Common.{◌≡◌, ℕ, zero, suc, ◌-◌, ◌<◌, ◌≤◌, ℤ, pos, ◌≤ℤ◌, List, [], ◌∷◌, ◌++◌, All, length, map, get_or, replicate, refl, ap, arith}
use Rattle.std.specs.List.{AllByRecursion}
use Rattle.std.proofs.lemmas.Int.{ints}
use Rattle.std.proofs.lemmas.List.{length-append, length-map, length-replicate}
use Rattle.policy_tree.specs.declared.typed.Attr.{Attr}
use Rattle.policy_tree.specs.Meaning.{Meaning}
use Rattle.policy_eval.specs.Ranges.{AreIn, IsIn, Range, attribute_ranges, declared_range, range}
use Rattle.policy_eval.specs.Resolved.{AreAttributes, IsAttribute, IsResolved}
use Rattle.obligations.specs.Systems.{variable_ranges}
use Rattle.obligations.proofs.Kept.{AllByRecursion-append}

-- some number lies in the range
abbrev pub IsNotEmpty : Range → Type 0
IsNotEmpty r = r.low ≤ℤ r.high

pub length-attribute_ranges : (attrs : List Attr) → length attrs ≤ 8 → length (attribute_ranges attrs) ≡ 8
length-attribute_ranges attrs few =
    let long = length-append (map declared_range attrs) (replicate (8 - length attrs) (range (pos 0) (pos 0))) in
    let each = length-map attrs declared_range in
    let rest = length-replicate (8 - length attrs) (range (pos 0) (pos 0)) in
    omega arith

pub length-variable_ranges : (p : Meaning) → IsResolved p → length (variable_ranges p) ≡ 30
length-variable_ranges p is =
    let core = length-attribute_ranges p.core_attrs is.core_attrs.few in
    let thread = length-attribute_ranges p.thread_attrs is.thread_attrs.few in
    let all = length-append (attribute_ranges p.core_attrs ++ attribute_ranges p.core_attrs) (attribute_ranges p.thread_attrs) in
    let earlier = length-append (attribute_ranges p.core_attrs) (attribute_ranges p.core_attrs) in
    omega arith

declared_ranges-not_empty : (attrs : List Attr) → All IsAttribute attrs → AllByRecursion IsNotEmpty (map declared_range attrs)
declared_ranges-not_empty [] each = tt
declared_ranges-not_empty (a ∷ attrs) each =
    let is = each 0 a (omega arith) in let low = is.from_low in let high = is.to_high in
    (omega (arith, ints), declared_ranges-not_empty attrs (λ k d inside. each (suc k) d (omega arith)))

zeros-not_empty : (n : ℕ) → AllByRecursion IsNotEmpty (replicate n (range (pos 0) (pos 0)))
zeros-not_empty zero = tt
zeros-not_empty (suc n) = (omega (arith, ints), zeros-not_empty n)

pub attribute_ranges-not_empty : (attrs : List Attr) → AreAttributes attrs → AllByRecursion IsNotEmpty (attribute_ranges attrs)
attribute_ranges-not_empty attrs are =
    AllByRecursion-append IsNotEmpty (map declared_range attrs) (replicate (8 - length attrs) (range (pos 0) (pos 0)))
    (declared_ranges-not_empty attrs are.each) (zeros-not_empty (8 - length attrs))

pub variable_ranges-not_empty : (p : Meaning) → IsResolved p → AllByRecursion IsNotEmpty (variable_ranges p)
variable_ranges-not_empty p is =
    let ordered = is.load.ordered in
    let core = attribute_ranges-not_empty p.core_attrs is.core_attrs in
    let thread = attribute_ranges-not_empty p.thread_attrs is.thread_attrs in (
      omega (arith, ints),
      (
        omega (arith, ints),
        (
          omega (arith, ints),
          (
            omega (arith, ints),
            (
              omega (arith, ints),
              (
                omega (arith, ints),
                AllByRecursion-append IsNotEmpty (attribute_ranges p.core_attrs ++ attribute_ranges p.core_attrs) (attribute_ranges p.thread_attrs)
                    (AllByRecursion-append IsNotEmpty (attribute_ranges p.core_attrs) (attribute_ranges p.core_attrs) core core) thread,
              ),
            ),
          ),
        ),
      ),
    )

-- the range of a place past the last
abbrev pub none : Range
none = range (pos 0) (pos 0)

pub AllByRecursion-at : {X : Type 0} (P : X → Type 0) (xs : List X) (k : ℕ) (d : X) → k < length xs → AllByRecursion P xs → P (get_or xs k d)
AllByRecursion-at P [] k d lt all = absurd (omega arith)
AllByRecursion-at P (x ∷ xs) zero d lt all = all.0
AllByRecursion-at P (x ∷ xs) (suc k) d lt all = AllByRecursion-at P xs k d (omega arith) all.1

-- the value of each place lies in the range of that place
pub AreIn-at : (ranges : List Range) (values : List ℤ) (k : ℕ) → k < length ranges → AreIn ranges values → IsIn (get_or ranges k none) (get_or values k (pos 0))
AreIn-at [] values k lt are = absurd (omega arith)
AreIn-at (r ∷ ranges) [] k lt are = absurd are
AreIn-at (r ∷ ranges) (x ∷ values) zero lt are = are.0
AreIn-at (r ∷ ranges) (x ∷ values) (suc k) lt are = AreIn-at ranges values k (omega arith) are.1

pub AreIn-each : (ranges : List Range) (values : List ℤ) → length values ≡ length ranges
    → ((k : ℕ) → k < length ranges → IsIn (get_or ranges k none) (get_or values k (pos 0))) → AreIn ranges values
AreIn-each [] [] long each = tt
AreIn-each [] (x ∷ values) long each = absurd (omega arith)
AreIn-each (r ∷ ranges) [] long each = absurd (omega arith)
AreIn-each (r ∷ ranges) (x ∷ values) long each = (each 0 (omega arith), AreIn-each ranges values (omega arith) (λ k lt. each (suc k) (omega arith)))

pub AreIn-long : (ranges : List Range) (values : List ℤ) → AreIn ranges values → length values ≡ length ranges
AreIn-long [] [] are = refl
AreIn-long [] (x ∷ values) are = absurd are
AreIn-long (r ∷ ranges) [] are = absurd are
AreIn-long (r ∷ ranges) (x ∷ values) are = ap suc (AreIn-long ranges values are.1)
