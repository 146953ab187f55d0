-- Points that are no farther from 0 than others.
use Rattle.std.specs.Prelude.{◌≤◌, ℤ, List, unsigned_abs}
use Rattle.std.specs.List.{AllZip}
use Rattle.linear_form.specs.Solution.{Solves}
use Rattle.linear_form.specs.System.{LinearSystem}

-- each value of the first list is no farther from 0 than that of the second at its place
abbrev pub AreNearer : List ℤ → List ℤ → Type 0
AreNearer nearer farther = AllZip (λ (a b : ℤ). unsigned_abs a ≤ unsigned_abs b) nearer farther

-- The point solves the system, and no value is farther from 0 than in that one.
pub record IsSmaller (system : LinearSystem) (point smaller : List ℤ) : Type 0 where
  pub solves : Solves system.bounds system.rows smaller
  pub nearer : AreNearer smaller point
