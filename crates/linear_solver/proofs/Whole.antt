-- A search of a whole system, and when it ends with an answer.
use Rattle.std.proofs.Common.{◌≡◌, ℕ, ◌<◌, ◌≤◌, ◌^◌, List, ◌∷◌, Option, Some, None, SomeIff, IsSomeAnd, pos, arith}
use Rattle.linear_form.specs.declared.form.Row.{Row}
use Rattle.linear_form.specs.declared.form.Bound.{Bound}
use Rattle.linear_form.specs.Points.{points_of}
use Rattle.linear_form.proofs.Counting.{points_positive}
use Rattle.linear_solver.specs.Boxes.{height}
use Rattle.linear_solver.specs.Decides.{MayStayOpen}
use Rattle.linear_solver.proofs.Heights.{halvings-some}

-- a box that holds a system's box as a part
abbrev pub around : List Bound → List Bound
around bounds = record { lo = pos 0; hi = pos 1 } ∷ bounds

pub around_height : (bounds : List Bound) → height bounds < height (around bounds)
around_height bounds = omega (arith, halvings-some 1 (omega arith))

-- with no budget there is a point too many
pub idle_open : (bounds : List Bound) (rows : List Row) (budget : ℕ) → budget ≡ 0 → MayStayOpen bounds rows budget
idle_open bounds rows budget none = record {
  many = omega (arith, points_positive bounds);
  unrefuted = λ some. absurd (some none);
}

-- a system with few points is decided
pub few_points : (bounds : List Bound) (budget : ℕ) (points : Option ℕ) → budget < 2 ^ 64 → SomeIff points (points_of bounds < 2 ^ 128) (points_of bounds) → IsSomeAnd points (λ count. count ≤ budget) → points_of bounds < 2 ^ 64
few_points bounds budget None small is within = absurd within
few_points bounds budget (Some count) small is within = omega (arith, is.1)
