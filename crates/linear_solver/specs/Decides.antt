-- What the answer to a system is worth.
use Rattle.std.specs.Prelude.{◌≢◌, ℕ, ◌^◌, ◌<◌, List, Option, SomeIff}
use Rattle.linear_form.specs.declared.form.Row.{Row}
use Rattle.linear_form.specs.declared.form.Bound.{Bound}
use Rattle.linear_form.specs.Points.{points_of}
use Rattle.linear_form.specs.Solution.{Solves}
use Rattle.linear_cert.specs.Right.{IsRight, IsShallow, cert_tree}
use Rattle.linear_solver.specs.declared.answer.Answer.{Answer}
use Rattle.linear_solver.specs.declared.answer.Answer.TheVariants.{Holds, Fails, Undecided}
use Rattle.linear_solver.specs.Elimination.{IsUnrefuted}

-- the number of points that the ranges have, none where it passes 2^128 - 1
abbrev pub IsNumberOfPoints : List Bound → Option ℕ → Type 0
IsNumberOfPoints bounds points = SomeIff points (points_of bounds < 2 ^ 128) (points_of bounds)

-- a certificate is right, a point is a solution, and a number of points is that of the ranges
abbrev pub Decides : List Bound → List Row → Answer → Type 0
Decides bounds rows (Holds cert) = IsRight bounds rows (cert_tree cert)
Decides bounds rows (Fails point) = Solves bounds rows point.vals
Decides bounds rows (Undecided points) = IsNumberOfPoints bounds points

-- no split of a certificate stands within 128 others
abbrev pub HoldsShallowly : Answer → Type 0
HoldsShallowly (Holds cert) = IsShallow (cert_tree cert)
HoldsShallowly (Fails point) = Unit {0}
HoldsShallowly (Undecided points) = Unit {0}

-- the system has more points than the budget, and unless the budget is 0, elimination doesn't refute it
pub record MayStayOpen (bounds : List Bound) (rows : List Row) (budget : ℕ) : Type 0 where
  pub many : budget < points_of bounds
  pub unrefuted : budget ≢ 0 → IsUnrefuted bounds rows

-- only such a system is left undecided
abbrev pub DecidesUnlessOpen : List Bound → List Row → ℕ → Answer → Type 0
DecidesUnlessOpen bounds rows budget (Holds cert) = Unit {0}
DecidesUnlessOpen bounds rows budget (Fails point) = Unit {0}
DecidesUnlessOpen bounds rows budget (Undecided points) = MayStayOpen bounds rows budget

-- nothing was found only where elimination doesn't refute
abbrev pub HoldsIfRefuted : List Bound → List Row → Answer → Type 0
HoldsIfRefuted bounds rows (Holds cert) = Unit {0}
HoldsIfRefuted bounds rows (Fails point) = Unit {0}
HoldsIfRefuted bounds rows (Undecided points) = IsUnrefuted bounds rows

-- the answer is that nothing was found
abbrev pub IsUndecided : Answer → Type 0
IsUndecided (Holds cert) = ⊥
IsUndecided (Fails point) = ⊥
IsUndecided (Undecided points) = Unit {0}
