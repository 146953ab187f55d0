-- What the code of elimination keeps and gives. Nobody who believes the contract of the decider needs these words.
use Rattle.std.specs.Prelude.{◌≡◌, ℕ, ◌<◌, ◌≤◌, List, [], ◌∷◌, ◌++◌, length, slice_index_or, All, Option, Some, None}
use Rattle.std.specs.declared.vec.Vec.{Vec}
use Rattle.std.specs.declared.alloc.Global.{Global}
use Rattle.linear_solver.specs.declared.derived.Shape.{Shape}
use Rattle.linear_solver.specs.declared.derived.Derived.{Derived}
use Rattle.linear_solver.specs.declared.derived.Combined.{Combined}
use Rattle.linear_solver.specs.declared.derived.Combined.TheVariants.{TooLarge, LeftOut, Kept}
use Rattle.linear_form.specs.declared.form.Row.{Row}
use Rattle.linear_form.specs.declared.form.Bound.{Bound}
use Rattle.linear_solver.specs.declared.derived.TheConstants.{MAX_DERIVED}
use Rattle.linear_cert.specs.declared.cert.Mult.{Mult}
use Rattle.linear_solver.specs.Leaves.{multipliers_from}
use Rattle.linear_solver.specs.Elimination.{IsContradiction, IsSmall, IsWithinSizes, kept, numbered_count}

-- a row with so many numbers, each of them in range
pub record HasShape (shape : Shape) (row : Derived) : Type 0 where
  pub coefs : length row.coefs ≡ shape.variables
  pub mults : length row.mults ≡ shape.numbered
  pub small : IsSmall row

-- what two rows with this sum give
abbrev pub IsKept : Derived → Combined → Type 0
IsKept sum TooLarge = All IsSmall (kept sum) → ⊥
IsKept sum LeftOut = kept sum ≡ []
IsKept sum (Kept row) = (kept sum ≡ row ∷ []) × (row ≡ sum) × IsSmall row

-- how many numbers each derived row of a system has
abbrev pub shape_of : List Bound → List Row → Shape
shape_of bounds rows = record { variables = length bounds; numbered = numbered_count bounds rows }

-- a list of derived rows of one shape that isn't too long
pub record IsList (shape : Shape) (list : List Derived) : Type 0 where
  pub few : length list ≤ MAX_DERIVED
  pub shapes : All (HasShape shape) list

-- a list, one of its rows, and the sums so far
pub record CanBeAdded (shape : Shape) (list : List Derived) (row : Derived) (sums : List Derived) : Type 0 where
  pub of_list : IsList shape list
  pub of_row : HasShape shape row
  pub of_sums : IsList shape sums

-- what is given for a list and more rows: both, or nothing where that passes a size
abbrev pub Extends : Shape → List Derived → List Derived → Option (Vec Derived Global) → Type 0
Extends shape list more None = IsWithinSizes (list ++ more) → ⊥
Extends shape list more (Some both) = (both.items ≡ list ++ more) × IsList shape both.items

-- the row in this place is a contradiction
pub record RefutesAt (list : List Derived) (place : ℕ) : Type 0 where
  pub known : place < length list
  pub refutes : (d : Derived) → IsContradiction (slice_index_or list place d)

-- the multipliers of a contradiction of the list
pub record LeafIn (list : List Derived) (leaf : List Mult) : Type 0 where
  pub place : ℕ
  pub refutes : RefutesAt list place
  pub leaf_is : (d : Derived) → leaf ≡ multipliers_from 0 (slice_index_or list place d).mults
