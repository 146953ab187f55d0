-- The range of each variable, and the ranges wide enough for every policy.
use Rattle.std.specs.Prelude.{ℕ, ℤ, pos, neg_ℤ, ◌-◌, ◌≤ℤ◌, List, ◌∷◌, ◌++◌, map, length, replicate}
use Rattle.std.specs.List.{AllZip}
use Rattle.sched_base.specs.declared.limits.TheConstants.{MAX_ATTRIBUTE, MAX_ATTRIBUTES, MAX_LOAD, MAX_THREADS}
use Rattle.sched_base.specs.declared.limits.TheConstants.{MAX_WEIGHT}
use Rattle.policy_tree.specs.declared.typed.Attr.{Attr}
use Rattle.policy_tree.specs.declared.typed.Load.{Load}
use Rattle.policy_tree.specs.declared.typed.Load.TheVariants as load

-- the whole numbers from `low` to `high`
pub record Range : Type 0 where
  pub low : ℤ
  pub high : ℤ

abbrev pub range : ℤ → ℤ → Range
range low high = record { low = low; high = high }

-- the whole numbers of at most this magnitude
abbrev pub within : ℤ → Range
within magnitude = range (neg_ℤ magnitude) magnitude

-- the number lies in the range
pub record IsIn (r : Range) (x : ℤ) : Type 0 where
  pub above : r.low ≤ℤ x
  pub below : x ≤ℤ r.high

-- there are as many numbers as ranges, and each number lies in its range
abbrev pub AreIn : List Range → List ℤ → Type 0
AreIn ranges numbers = AllZip IsIn ranges numbers

-- the least weight of a thread: loads that are counts weigh each thread 1
abbrev pub least_weight : Load → ℕ
least_weight load.Count = 1
least_weight (load.Weight lo hi) = lo

-- the greatest weight of a thread
abbrev pub greatest_weight : Load → ℕ
greatest_weight load.Count = 1
greatest_weight (load.Weight lo hi) = hi

abbrev pub declared_range : Attr → Range
declared_range a = range a.lo a.hi

-- the ranges of the values that there is room for: past the declared attributes they are 0
abbrev pub attribute_ranges : List Attr → List Range
attribute_ranges attrs =
    map declared_range attrs ++ replicate (MAX_ATTRIBUTES - length attrs) (range (pos 0) (pos 0))

-- the ranges of all variables wide enough for every resolved policy
unfoldable pub wide_ranges : List Range
wide_ranges =
    range (pos 0) (pos MAX_THREADS)
    ∷ range (pos 0) (pos MAX_LOAD)
    ∷ range (pos 0) (pos MAX_THREADS)
    ∷ range (pos 0) (pos MAX_LOAD)
    ∷ range (pos 1) (pos MAX_WEIGHT)
    ∷ range (pos 0) (pos 1)
    ∷ (attributes ++ attributes ++ attributes)
  where
    attributes : List Range
    attributes = replicate MAX_ATTRIBUTES (within MAX_ATTRIBUTE)
