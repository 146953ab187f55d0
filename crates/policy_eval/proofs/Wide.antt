-- What a policy sees of cores and threads within its ranges lies in the wide ranges.
use Rattle.std.proofs.Common.{◌≡◌, ℕ, zero, suc, ◌-◌, ◌≤◌, ℤ, pos, ◌≤ℤ◌, Bool, true, false, cond, List, [], ◌∷◌, ◌++◌, map, replicate, length, set, All, slice_get, Option, Some, None, refl, sym, arith, subst}
use Rattle.std.proofs.lemmas.Int.{ints, clamps}
use Rattle.std.proofs.lemmas.Nat.{mul-le}
use Rattle.sched_base.specs.declared.limits.TheConstants.{MAX_ATTRIBUTE, MAX_LOAD, MAX_THREADS, MAX_WEIGHT}
use Rattle.sched_base.specs.declared.task.Task.{Task}
use Rattle.policy_tree.specs.declared.typed.Attr.{Attr}
use Rattle.policy_tree.specs.Meaning.{Meaning, SetTree}
use Rattle.policy_eval.specs.declared.env.CoreValues.{CoreValues}
use Rattle.policy_eval.specs.Events.{saturated, seen_by_handler, task_after_set, with_attribute}
use Rattle.policy_eval.specs.Fitting.{CoreFits, IsTask, IsWeight, LoadsFit}
use Rattle.policy_eval.specs.Ranges.{AreIn, IsIn, Range, attribute_ranges, declared_range, greatest_weight, range, wide_ranges, within}
use Rattle.policy_eval.specs.Resolved.{AreAttributes, IsAttribute, IsResolved}
use Rattle.policy_eval.specs.Sights.{assigned, core_values, event_values, move_values, no_attributes, pair_values, thread_values}
use Rattle.policy_eval.specs.Values.{value_of}

-- a range inside another
record IsInside (inner outer : Range) : Type 0 where
  low : outer.low ≤ℤ inner.low
  high : inner.high ≤ℤ outer.high

IsIn-inside : (inner outer : Range) (x : ℤ) → IsInside inner outer → IsIn inner x → IsIn outer x
IsIn-inside inner outer x fits is =
    let a = fits.low in let b = fits.high in let d = is.above in let e = is.below in
    record { above = omega (arith, ints); below = omega (arith, ints) }

wide_attribute : Range
wide_attribute = within MAX_ATTRIBUTE

attribute_inside : (a : Attr) → IsAttribute a → IsInside (declared_range a) wide_attribute
unfolding wide_attribute
attribute_inside a is =
    let low = is.low in let up = is.from_low in let on = is.to_high in let high = is.high in
    record { low = omega (arith, ints); high = omega (arith, ints) }

zero_inside : IsInside (range (pos 0) (pos 0)) wide_attribute
unfolding wide_attribute
zero_inside = record { low = omega (arith, ints); high = omega (arith, ints) }

zeros_wide : (n : ℕ) (xs : List ℤ) → AreIn (replicate n (range (pos 0) (pos 0))) xs → AreIn (replicate n wide_attribute) xs
zeros_wide zero [] are = tt
zeros_wide zero (x ∷ xs) are = absurd are
zeros_wide (suc n) [] are = absurd are
zeros_wide (suc n) (x ∷ xs) are = (IsIn-inside (range (pos 0) (pos 0)) wide_attribute x zero_inside are.0, zeros_wide n xs are.1)

declared_wide : (n : ℕ) (attrs : List Attr) (xs : List ℤ) → length attrs ≤ n → All IsAttribute attrs
    → AreIn (map declared_range attrs ++ replicate (n - length attrs) (range (pos 0) (pos 0))) xs → AreIn (replicate n wide_attribute) xs
declared_wide n [] xs few each are = subst (λ k. AreIn (replicate k wide_attribute) xs) (omega arith) (zeros_wide (n - 0) xs are)
declared_wide zero (a ∷ attrs) xs few each are = absurd (omega arith)
declared_wide (suc n) (a ∷ attrs) [] few each are = absurd are
declared_wide (suc n) (a ∷ attrs) (x ∷ xs) few each are = (
  IsIn-inside (declared_range a) wide_attribute x (attribute_inside a (each 0 a (omega arith))) are.0,
  declared_wide n attrs xs (omega arith) (λ k d inside. each (suc k) d (omega arith))
      (subst (λ k. AreIn (map declared_range attrs ++ replicate k (range (pos 0) (pos 0))) xs) (omega arith) are.1),
)

-- attribute values in their declared ranges
attributes_wide : (attrs : List Attr) (xs : List ℤ) → AreAttributes attrs → AreIn (attribute_ranges attrs) xs → AreIn (replicate 8 wide_attribute) xs
attributes_wide attrs xs is are = declared_wide 8 attrs xs is.few is.each are

AreIn-append : (rs ss : List Range) (xs ys : List ℤ) → AreIn rs xs → AreIn ss ys → AreIn (rs ++ ss) (xs ++ ys)
AreIn-append [] ss [] ys first second = second
AreIn-append [] ss (x ∷ xs) ys first second = absurd first
AreIn-append (r ∷ rs) ss [] ys first second = absurd first
AreIn-append (r ∷ rs) ss (x ∷ xs) ys first second = (first.0, AreIn-append rs ss xs ys first.1 second)

zeros_fit : (n : ℕ) → AreIn (replicate n wide_attribute) (replicate n (pos 0))
unfolding wide_attribute
zeros_fit zero = tt
zeros_fit (suc n) = (record { above = omega (arith, ints); below = omega (arith, ints) }, zeros_fit n)

no_attributes_wide : AreIn (replicate 8 wide_attribute) no_attributes
no_attributes_wide = zeros_fit 8

IsIn-pos : (low high n : ℕ) → low ≤ n → n ≤ high → IsIn (range (pos low) (pos high)) (pos n)
IsIn-pos low high n above below = record { above = omega (arith, ints); below = omega (arith, ints) }

-- the attributes of the core itself, of the other core and of the thread
three_wide : (own victims attrs : List ℤ) → AreIn (replicate 8 wide_attribute) own → AreIn (replicate 8 wide_attribute) victims → AreIn (replicate 8 wide_attribute) attrs
    → AreIn (replicate 8 wide_attribute ++ replicate 8 wide_attribute ++ replicate 8 wide_attribute) (own ++ victims ++ attrs)
three_wide own victims attrs a b c =
    let eight : List Range = replicate 8 wide_attribute in
    AreIn-append (eight ++ eight) eight (own ++ victims) attrs (AreIn-append eight eight own victims a b) c

pub LoadsFit-bound : (p : Meaning) → IsResolved p → (nr load : ℕ) → LoadsFit p nr load → load ≤ MAX_LOAD
LoadsFit-bound p is nr load fits =
    let bound = mul-le nr (greatest_weight p.load) MAX_THREADS MAX_WEIGHT fits.few is.load.small in let heavy = fits.heavy in omega arith

-- all variables
assigned_wide : (nr load victim_nr victim_load weight fresh : ℕ) (own victims attrs : List ℤ)
    → nr ≤ MAX_THREADS → load ≤ MAX_LOAD → victim_nr ≤ MAX_THREADS → victim_load ≤ MAX_LOAD → 1 ≤ weight → weight ≤ MAX_WEIGHT → fresh ≤ 1
    → AreIn (replicate 8 wide_attribute) own → AreIn (replicate 8 wide_attribute) victims → AreIn (replicate 8 wide_attribute) attrs
    → AreIn wide_ranges (assigned nr load victim_nr victim_load weight fresh own victims attrs)
unfolding wide_ranges wide_attribute
assigned_wide nr load victim_nr victim_load weight fresh own victims attrs a b c d e f g x y z = (
  IsIn-pos 0 MAX_THREADS nr (omega arith) a,
  (
    IsIn-pos 0 MAX_LOAD load (omega arith) b,
    (
      IsIn-pos 0 MAX_THREADS victim_nr (omega arith) c,
      (
        IsIn-pos 0 MAX_LOAD victim_load (omega arith) d,
        (IsIn-pos 1 MAX_WEIGHT weight e f, (IsIn-pos 0 1 fresh (omega arith) g, three_wide own victims attrs x y z)),
      ),
    ),
  ),
)

module _ (p : Meaning) (is : IsResolved p) where
  consts_wide : (xs : List ℤ) → AreIn (attribute_ranges p.core_attrs) xs → AreIn (replicate 8 wide_attribute) xs
  consts_wide xs are = attributes_wide p.core_attrs xs is.core_attrs are

  attrs_wide : (xs : List ℤ) → AreIn (attribute_ranges p.thread_attrs) xs → AreIn (replicate 8 wide_attribute) xs
  attrs_wide xs are = attributes_wide p.thread_attrs xs is.thread_attrs are

  positive_weight : (weight : ℕ) → IsWeight p weight → 1 ≤ weight
  positive_weight weight fits = let positive = is.load.positive in let least = fits.least in omega arith

  small_weight : (weight : ℕ) → IsWeight p weight → weight ≤ MAX_WEIGHT
  small_weight weight fits = let small = is.load.small in let greatest = fits.greatest in omega arith

  pub pair_wide : (own victim : CoreValues) → CoreFits p own → CoreFits p victim → AreIn wide_ranges (pair_values own victim)
  unfolding pair_values
  pair_wide own victim fits_own fits_victim =
      assigned_wide own.nr own.load victim.nr victim.load 1 0 own.consts victim.consts no_attributes
      fits_own.loads.few (LoadsFit-bound p is own.nr own.load fits_own.loads) fits_victim.loads.few (LoadsFit-bound p is victim.nr victim.load fits_victim.loads)
      (omega arith) (omega arith) (omega arith)
      (consts_wide own.consts fits_own.consts) (consts_wide victim.consts fits_victim.consts) no_attributes_wide

  pub move_wide : (own victim : CoreValues) (weight : ℕ) (attrs : List ℤ) → CoreFits p own → CoreFits p victim → IsWeight p weight
      → AreIn (attribute_ranges p.thread_attrs) attrs → AreIn wide_ranges (move_values own victim weight attrs)
  unfolding move_values
  move_wide own victim weight attrs fits_own fits_victim fits held =
      assigned_wide own.nr own.load victim.nr victim.load weight 0 own.consts victim.consts attrs
      fits_own.loads.few (LoadsFit-bound p is own.nr own.load fits_own.loads) fits_victim.loads.few (LoadsFit-bound p is victim.nr victim.load fits_victim.loads)
      (positive_weight weight fits) (small_weight weight fits) (omega arith)
      (consts_wide own.consts fits_own.consts) (consts_wide victim.consts fits_victim.consts) (attrs_wide attrs held)

  pub core_wide : (core : CoreValues) → CoreFits p core → AreIn wide_ranges (core_values core)
  unfolding core_values
  core_wide core fits =
      assigned_wide 0 0 core.nr core.load 1 0 no_attributes core.consts no_attributes
      (omega arith) (omega arith) fits.loads.few (LoadsFit-bound p is core.nr core.load fits.loads) (omega arith) (omega arith) (omega arith)
      no_attributes_wide (consts_wide core.consts fits.consts) no_attributes_wide

  pub thread_wide : (t : Task) → IsTask p t → AreIn wide_ranges (thread_values t.weight t.attrs)
  unfolding thread_values
  thread_wide t fits =
      assigned_wide 0 0 0 0 t.weight 0 no_attributes no_attributes t.attrs
      (omega arith) (omega arith) (omega arith) (omega arith) (positive_weight t.weight fits.weight) (small_weight t.weight fits.weight) (omega arith)
      no_attributes_wide no_attributes_wide (attrs_wide t.attrs fits.attrs)

  fresh_small : (fresh : Bool) → cond fresh 1 0 ≤ 1
  fresh_small true = omega arith
  fresh_small false = omega arith

  pub event_wide : (fresh : Bool) (consts : List ℤ) (t : Task) → AreIn (attribute_ranges p.core_attrs) consts → IsTask p t → AreIn wide_ranges (seen_by_handler fresh consts t)
  unfolding event_values
  event_wide fresh consts t held fits =
      assigned_wide 0 0 0 0 t.weight (cond fresh 1 0) consts no_attributes t.attrs
      (omega arith) (omega arith) (omega arith) (omega arith) (positive_weight t.weight fits.weight) (small_weight t.weight fits.weight) (fresh_small fresh)
      (consts_wide consts held) no_attributes_wide (attrs_wide t.attrs fits.attrs)

saturated_in : (a : Attr) (x : ℤ) → a.lo ≤ℤ a.hi → IsIn (declared_range a) (saturated a x)
saturated_in a x ordered = record { above = omega (arith, ints, clamps); below = omega (arith, ints, clamps) }

-- a value in its range takes the place of another
set_in : (attrs : List Attr) (rest : List Range) (xs : List ℤ) (at : ℕ) (a : Attr) (x : ℤ) → slice_get attrs at ≡ Some a → IsIn (declared_range a) x
    → AreIn (map declared_range attrs ++ rest) xs → AreIn (map declared_range attrs ++ rest) (set xs at x)
set_in [] rest xs at a x found fits are = absurd (cc)
set_in (b ∷ attrs) rest [] at a x found fits are = absurd are
set_in (b ∷ attrs) rest (y ∷ ys) zero a x found fits are =
    let same : b ≡ a = cc in (subst (λ c. IsIn (declared_range c) x) (sym same) fits, are.1)
set_in (b ∷ attrs) rest (y ∷ ys) (suc at) a x found fits are = (are.0, set_in attrs rest ys at a x found fits are.1)

attribute_ordered : (attrs : List Attr) (at : ℕ) (a : Attr) → All IsAttribute attrs → slice_get attrs at ≡ Some a → a.lo ≤ℤ a.hi
attribute_ordered [] at a each found = absurd (cc)
attribute_ordered (b ∷ attrs) zero a each found =
    let same : b ≡ a = cc in
    subst (λ (c : Attr). c.lo ≤ℤ c.hi) same (let is = each 0 b (omega arith) in let low = is.from_low in let high = is.to_high in omega (arith, ints))
attribute_ordered (b ∷ attrs) (suc at) a each found = attribute_ordered attrs at a (λ k d inside. each (suc k) d (omega arith)) found

with_attribute_in : (p : Meaning) → IsResolved p → (t : Task) (at : ℕ) (x : ℤ) (found : Option Attr) → slice_get p.thread_attrs at ≡ found → IsTask p t → IsTask p (with_attribute found at x t)
with_attribute_in p is t at x None e fits = fits
with_attribute_in p is t at x (Some a) e fits = record {
  weight = fits.weight;
  attrs = set_in p.thread_attrs _ t.attrs at a (saturated a x) e (saturated_in a x (attribute_ordered p.thread_attrs at a is.thread_attrs.each e)) fits.attrs;
}

-- an assignment keeps a thread in its ranges
pub IsTask-set : (p : Meaning) → IsResolved p → (fresh : Bool) (consts : List ℤ) (t : Task) (s : SetTree) → IsTask p t → IsTask p (task_after_set p fresh consts t s)
unfolding task_after_set
IsTask-set p is fresh consts t s fits =
    with_attribute_in p is t s.attr (value_of (seen_by_handler fresh consts t) s.expr) (slice_get p.thread_attrs s.attr) refl fits
