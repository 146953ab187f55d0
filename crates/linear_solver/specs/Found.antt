-- What the search finds. Nobody who believes the contract of the decider needs these words.
use Rattle.std.specs.Prelude.{ℕ, ◌<◌, List}
use Rattle.linear_form.specs.declared.form.Row.{Row}
use Rattle.linear_form.specs.declared.form.Bound.{Bound}
use Rattle.linear_form.specs.Solution.{Solves}
use Rattle.linear_cert.specs.Right.{IsRight, SplitsAtMost, cert_tree}
use Rattle.linear_solver.specs.declared.parts.Part.{Part}
use Rattle.linear_solver.specs.declared.parts.Part.TheVariants.{Closed, Open}
use Rattle.linear_solver.specs.declared.searching.Found.{Found}
use Rattle.linear_solver.specs.declared.searching.Found.TheVariants.{Refuted, Solved, Stopped}
use Rattle.linear_solver.specs.declared.searching.Step.{Step}
use Rattle.linear_solver.specs.declared.searching.Step.TheVariants.{Done, Cut}
use Rattle.linear_solver.specs.Boxes.{height}
use Rattle.linear_solver.specs.Steps.{IsPartition}

-- a right certificate with at most so many splits one within another, or a solution
abbrev pub IsFound : ℕ → List Bound → List Row → Found → Type 0
IsFound room bounds rows (Refuted cert) = IsRight bounds rows (cert_tree cert) × SplitsAtMost room (cert_tree cert)
IsFound room bounds rows (Solved point) = Solves bounds rows point.vals
IsFound room bounds rows Stopped = Unit {0}

-- one of the two
abbrev pub IsDecided : Found → Type 0
IsDecided (Refuted cert) = Unit {0}
IsDecided (Solved point) = Unit {0}
IsDecided Stopped = ⊥

-- what one look gives is so
abbrev pub IsStep : ℕ → List Bound → List Row → Step → Type 0
IsStep room bounds rows (Done found) = IsFound room bounds rows found
IsStep room bounds rows (Cut partition) = (0 < room) × IsPartition bounds rows partition

-- it didn't stop with nothing found
abbrev pub GoesOn : Step → Type 0
GoesOn (Done found) = IsDecided found
GoesOn (Cut partition) = Unit {0}

-- how often some range of the part can be cut in halves
abbrev pub height_of : Part → ℕ
height_of (Closed leaf) = 0
height_of (Open bounds) = height bounds.items
