-- What a row may say over a box, the ranges of all variables, and how often a box can be halved.
use Rattle.std.specs.Prelude.{◌≡◌, ℕ, zero, suc, ◌+◌, ◌*◌, ◌/◌, ◌<◌, ◌==◌, if◌then◌else◌, List, [], ◌∷◌, length, map}
use Rattle.std.specs.Prelude.{All, ℤ, pos, ◌-ℤ◌, ◌*ℤ◌, ◌≤ℤ◌, ◌<ℤ◌, int_lt, unsigned_abs}
use Rattle.linear_form.specs.declared.form.Term.{Term}
use Rattle.linear_form.specs.declared.form.Row.{Row}
use Rattle.linear_form.specs.declared.form.Bound.{Bound}
use Rattle.linear_form.specs.Sum.{sum_over}
use Rattle.linear_cert.specs.declared.cert.Mult.{Mult}
use Rattle.linear_cert.specs.Right.{range_of}

-- the end of a variable's range at which a term is least
abbrev pub least_term : List Bound → Term → ℤ
least_term bounds term =
    term.coef *ℤ (if int_lt (pos 0) term.coef then (range_of bounds term.var).lo else (range_of bounds term.var).hi)

-- and the end at which it is greatest
abbrev pub greatest_term : List Bound → Term → ℤ
greatest_term bounds term =
    term.coef *ℤ (if int_lt (pos 0) term.coef then (range_of bounds term.var).hi else (range_of bounds term.var).lo)

-- the least value of a left side over the box
abbrev pub least : List Bound → List Term → ℤ
least bounds terms = sum_over (least_term bounds) terms

-- its greatest value
abbrev pub greatest : List Bound → List Term → ℤ
greatest bounds terms = sum_over (greatest_term bounds) terms

-- the row holds nowhere in the box
abbrev pub IsRefuted : List Bound → Row → Type 0
IsRefuted bounds row = row.bound <ℤ least bounds row.terms

-- it holds at every point of the box
abbrev pub IsImplied : List Bound → Row → Type 0
IsImplied bounds row = greatest bounds row.terms ≤ℤ row.bound

-- the point of the least values
abbrev pub low_ends : List Bound → List ℤ
low_ends bounds = map (λ (range : Bound). range.lo) bounds

-- the variable has more than one value
pub record IsWide (bounds : List Bound) (variable : ℕ) : Type 0 where
  pub known : variable < length bounds
  pub wide : (range_of bounds variable).lo <ℤ (range_of bounds variable).hi

-- the row of a range that takes a term's variable out of a sum at the term's least value
abbrev pub closing : ℕ → Term → Mult
closing rows term = record {
  row = rows + 2 * term.var + (if int_lt (pos 0) term.coef then 0 else 1);
  by = unsigned_abs term.coef;
}

-- a row of the system, once, and what takes its variables out
abbrev pub row_leaf : ℕ → ℕ → List Term → List Mult
row_leaf rows row terms = record { row = row; by = 1 } ∷ map (closing rows) terms

-- how often a number can be halved until it is 0, rounded down, at most so many times
unfoldable pub halvings_up_to : ℕ → ℕ → ℕ
halvings_up_to zero number = 0
halvings_up_to (suc most) number = if number == 0 then 0 else 1 + halvings_up_to most (number / 2)

-- how often it can be halved
unfoldable pub halvings : ℕ → ℕ
halvings number = halvings_up_to number number

-- how far apart the ends of a range are
abbrev pub width : Bound → ℕ
width range = unsigned_abs (range.hi -ℤ range.lo)

-- how often some range of the box can be cut in halves
abbrev pub height : List Bound → ℕ
height [] = 0
height (range ∷ rest) = halvings (width range) + height rest

-- the row may hold at some points of the box, and doesn't hold at every one
pub record HoldsPartly (bounds : List Bound) (row : Row) : Type 0 where
  pub some : least bounds row.terms ≤ℤ row.bound
  pub few : row.bound <ℤ greatest bounds row.terms

-- how much a term changes over the box
abbrev pub spread : List Bound → Term → ℕ
spread bounds term = unsigned_abs term.coef * width (range_of bounds term.var)

-- no term changes
abbrev pub AreFixed : List Bound → List Term → Type 0
AreFixed bounds terms = All (λ term. spread bounds term ≡ 0) terms
