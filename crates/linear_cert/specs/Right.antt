-- Which certificates are right. A right one shows that a system has no solution (Farkas' lemma).
use Rattle.std.specs.Prelude.{◌≡◌, ℕ, ◌-◌, ◌<◌, List, length, slice_index_or, slice_set, All, ℤ, pos, ◌+ℤ◌, ◌≤ℤ◌, ◌<ℤ◌}
use Rattle.linear_form.specs.declared.form.Row.{Row}
use Rattle.linear_form.specs.declared.form.Bound.{Bound}
use Rattle.sched_base.specs.declared.limits.TheConstants.{MAX_SPLITS}
use Rattle.linear_cert.specs.declared.cert.Cert.{Cert, Leaf, Split'}
use Rattle.linear_cert.specs.declared.cert.Mult.{Mult}
use Rattle.linear_cert.specs.declared.rows.Column.TheVariants.{Variable, RightSide}
use Rattle.linear_cert.specs.Rows.{NamesRow}
use Rattle.linear_cert.specs.Columns.{AddsUp}

-- a certificate without the places where it lies in memory: what contracts compare
pub data CertTree : Type 0 where
  leaf : List Mult → CertTree
  split : ℕ → ℤ → CertTree → CertTree → CertTree

-- the tree of a certificate
abbrev pub cert_tree : Cert → CertTree
cert_tree (Leaf mults) = leaf mults
cert_tree (Split' variable at p left q right) = split variable at (cert_tree left) (cert_tree right)

-- in the certificate at most so many splits stand one within another
abbrev pub SplitsAtMost : ℕ → CertTree → Type 0
SplitsAtMost limit (leaf mults) = Unit {0}
SplitsAtMost limit (split variable at left right) =
    (0 < limit) × SplitsAtMost (limit - 1) left × SplitsAtMost (limit - 1) right

-- no split stands within 128 others
abbrev pub IsShallow : CertTree → Type 0
IsShallow tree = SplitsAtMost MAX_SPLITS tree

-- the variable isn't left in the sum of the named rows times their multipliers
abbrev pub Cancels : ℕ → List Bound → List Row → List Mult → Type 0
Cancels variable bounds rows mults = AddsUp (λ sum. sum ≡ pos 0) (Variable variable) bounds rows mults

-- no variable is left
abbrev pub NoTermIsLeft : List Bound → List Row → List Mult → Type 0
NoTermIsLeft bounds rows mults = (k : ℕ) → k < length bounds → Cancels k bounds rows mults

-- the bound of the sum is negative
abbrev pub BoundIsNegative : List Bound → List Row → List Mult → Type 0
BoundIsNegative bounds rows mults = AddsUp (λ sum. sum <ℤ pos 0) RightSide bounds rows mults

-- every row that is named is there, no variable is left in their sum, and its bound is negative
pub record IsRightLeaf (bounds : List Bound) (rows : List Row) (mults : List Mult) : Type 0 where
  pub named : All (NamesRow bounds rows) mults
  pub no_term : NoTermIsLeft bounds rows mults
  pub negative : BoundIsNegative bounds rows mults

-- the range of a variable
abbrev pub range_of : List Bound → ℕ → Bound
range_of bounds variable = slice_index_or bounds variable (record { lo = pos 0; hi = pos 0 })

-- the variable exists, and has values up to this one and values past it
pub record CanBeCut (bounds : List Bound) (variable : ℕ) (at : ℤ) : Type 0 where
  pub known : variable < length bounds
  pub from : (range_of bounds variable).lo ≤ℤ at
  pub below : at <ℤ (range_of bounds variable).hi

-- the values of a range up to this one
abbrev pub part_up_to : Bound → ℤ → Bound
part_up_to range at = record { lo = range.lo; hi = at }

-- the values of a range past this one
abbrev pub part_past : Bound → ℤ → Bound
part_past range at = record { lo = at +ℤ pos 1; hi = range.hi }

-- the bounds with the variable's values up to this one
abbrev pub up_to : List Bound → ℕ → ℤ → List Bound
up_to bounds variable at = slice_set bounds variable (part_up_to (range_of bounds variable) at)

-- the bounds with the variable's values past this one
abbrev pub past : List Bound → ℕ → ℤ → List Bound
past bounds variable at = slice_set bounds variable (part_past (range_of bounds variable) at)

-- the certificate shows that these bounds and rows have no solution
abbrev pub IsRight : List Bound → List Row → CertTree → Type 0
IsRight bounds rows (leaf mults) = IsRightLeaf bounds rows mults
IsRight bounds rows (split variable at left right) =
    CanBeCut bounds variable at ×
    IsRight (up_to bounds variable at) rows left × IsRight (past bounds variable at) rows right
