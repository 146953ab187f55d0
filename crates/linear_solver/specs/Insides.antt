-- Boxes in a box, and what a probe finds. Nobody who believes the contract of the decider needs these words.
use Rattle.std.specs.Prelude.{◌≡◌, ℕ, ◌<◌, List, length, slice_index_or, ◌≤ℤ◌}
use Rattle.linear_form.specs.declared.form.Row.{Row}
use Rattle.linear_form.specs.declared.form.Bound.{Bound}
use Rattle.linear_form.specs.Solution.{Solves}
use Rattle.linear_cert.specs.Right.{IsRightLeaf}
use Rattle.linear_solver.specs.declared.probing.Probe.{Probe}
use Rattle.linear_solver.specs.declared.probing.Probe.TheVariants.{Leaf, Point, Nothing}

-- a range that isn't empty, in another
pub record IsPartOf (whole part : Bound) : Type 0 where
  pub low : whole.lo ≤ℤ part.lo
  pub ordered : part.lo ≤ℤ part.hi
  pub high : part.hi ≤ℤ whole.hi

-- each range of the one box lies in that of the other
pub record IsInside (whole part : List Bound) : Type 0 where
  pub as_many : length part ≡ length whole
  pub inside : (k : ℕ) (c d : Bound) → k < length whole → IsPartOf (slice_index_or whole k c) (slice_index_or part k d)

-- a leaf is right, and a point is a solution
abbrev pub IsProbe : List Bound → List Row → Probe → Type 0
IsProbe bounds rows (Leaf leaf) = IsRightLeaf bounds rows leaf
IsProbe bounds rows (Point point) = Solves bounds rows point.vals
IsProbe bounds rows Nothing = Unit {0}
