-- What the code of the search finds at a box. Nobody who believes the contract of the decider needs these words.
use Rattle.std.specs.Prelude.{◌≡◌, ℕ, ◌<◌, List, length, slice_index_or, slice_set, All}
use Rattle.linear_form.specs.declared.form.Row.{Row}
use Rattle.linear_form.specs.declared.form.Bound.{Bound}
use Rattle.linear_form.specs.System.{IsSystem}
use Rattle.linear_solver.specs.declared.choice.Look.{Look}
use Rattle.linear_solver.specs.declared.choice.Look.TheVariants.{Refuted, Implied, Open as Open'}
use Rattle.linear_solver.specs.declared.choice.Reach.{Reach}
use Rattle.linear_solver.specs.declared.choice.Reach.TheVariants.{Nowhere, Everywhere, Partly}
use Rattle.linear_solver.specs.declared.choice.Tight.{Tight}
use Rattle.linear_solver.specs.declared.parts.Part.{Part}
use Rattle.linear_solver.specs.declared.parts.Part.TheVariants.{Closed, Open}
use Rattle.linear_solver.specs.declared.parts.Partition.{Partition}
use Rattle.linear_cert.specs.Right.{CanBeCut, IsRightLeaf, past, up_to}
use Rattle.linear_solver.specs.Boxes.{IsImplied, HoldsPartly, IsRefuted, height}

-- the row with this number may hold at some points of the box, and doesn't hold at every one
abbrev pub IsOpenRow : List Bound → List Row → ℕ → Type 0
IsOpenRow bounds rows row = (row < length rows) × ((d : Row) → HoldsPartly bounds (slice_index_or rows row d))

-- what the rows say of a box is so
abbrev pub IsLook : List Bound → List Row → Look → Type 0
IsLook bounds rows (Refuted number) = (number < length rows)
    × ((d : Row) → IsRefuted bounds (slice_index_or rows number d))
IsLook bounds rows Implied = All (IsImplied bounds) rows
IsLook bounds rows (Open' choice) = IsOpenRow bounds rows choice.row

-- the row is open
abbrev pub IsTight : List Bound → List Row → Tight → Type 0
IsTight bounds rows tight = IsOpenRow bounds rows tight.row

-- where the row holds is so
abbrev pub IsReach : List Bound → Row → Reach → Type 0
IsReach bounds row Nowhere = IsRefuted bounds row
IsReach bounds row Everywhere = IsImplied bounds row
IsReach bounds row (Partly slack change) = HoldsPartly bounds row × (0 < change)

-- the ranges of a part are those of the whole, but for one variable
pub record IsNarrowed (whole : List Bound) (variable : ℕ) (part : List Bound) : Type 0 where
  pub known : variable < length whole
  pub rest : (range : Bound) × (part ≡ slice_set whole variable range)

-- a part with these ranges is closed by a right leaf, or can be halved less often than the whole
abbrev pub IsPart : List Bound → List Row → List Bound → Part → Type 0
IsPart whole rows ranges (Closed leaf) = IsRightLeaf ranges rows leaf
IsPart whole rows ranges (Open part) = (part.items ≡ ranges) × (height ranges < height whole)

-- both parts of a box that is cut are so
pub record IsPartition (bounds : List Bound) (rows : List Row) (cut : Partition) : Type 0 where
  pub can : CanBeCut bounds cut.variable cut.at
  pub low : IsPart bounds rows (up_to bounds cut.variable cut.at) cut.low
  pub high : IsPart bounds rows (past bounds cut.variable cut.at) cut.high

-- the ranges that are searched are those of a system
abbrev pub IsSystemPart : List Row → Part → Type 0
IsSystemPart rows (Closed leaf) = Unit {0}
IsSystemPart rows (Open part) = IsSystem (record { bounds = part.items; rows = rows })
