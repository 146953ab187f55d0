-- What the local search looks at. Nobody who believes the contract of the decider needs these words.
use Rattle.std.specs.Prelude.{ℕ, ◌<◌, List, [], ◌∷◌, length, map, slice_index_or, ℤ, pos, ◌+ℤ◌, ◌-ℤ◌, ◌*ℤ◌, ◌≤ℤ◌, ◌<ℤ◌}
use Rattle.std.specs.Prelude.{int_div}
use Rattle.std.specs.Int.{w128, int_max, saturate_signed}
use Rattle.linear_form.specs.declared.form.Row.{Row}
use Rattle.linear_form.specs.declared.form.Bound.{Bound}
use Rattle.linear_form.specs.Solution.{IsWithin, left_side}
use Rattle.linear_cert.specs.declared.rows.Column.TheVariants.{Variable}
use Rattle.linear_cert.specs.Columns.{entry}
use Rattle.linear_cert.specs.Right.{range_of}
use Rattle.linear_solver.specs.declared.local_search.Change.{Change}
use Rattle.linear_solver.specs.declared.rows_at.State.{State}

-- the middle of a range, rounded towards 0
abbrev pub middle : Bound → ℤ
middle range = int_div (range.lo +ℤ range.hi) (pos 2)

-- by how much the left side of a row is over its bound at a point
abbrev pub excess : List ℤ → Row → ℤ
excess point row = left_side point row.terms -ℤ row.bound

-- how a row stands at a point before it is taken
abbrev pub first_state : List ℤ → Row → State
first_state point row = record { over = excess point row; weight = 1 }

-- a row in this state holds
abbrev pub Holds : State → Type 0
Holds state = state.over ≤ℤ pos 0

-- the row in this place doesn't
pub record IsFailing (states : List State) (place : ℕ) : Type 0 where
  pub known : place < length states
  pub over : (d : State) → pos 0 <ℤ (slice_index_or states place d).over

-- the variable exists, and the value lies in its range
pub record IsChange (bounds : List Bound) (change : Change) : Type 0 where
  pub known : change.variable < length bounds
  pub within : IsWithin (range_of bounds change.variable) change.value

-- the coefficient of a variable in each row
abbrev pub column_of : List Row → ℕ → List ℤ
column_of rows variable = map (entry (Variable variable)) rows

-- the number, or the nearest one that is a signed number of 128 bits
abbrev pub held : ℤ → ℤ
held number = saturate_signed w128 number

-- by how much a row fails, times its weight, once its left side grows by so much
abbrev pub cost : ℤ → State → ℤ
cost more state = held (int_max (held (state.over +ℤ more)) (pos 0) *ℤ pos state.weight)

-- a sum and the costs of the rows, once a variable with this column grows by so much
abbrev pub failure : ℤ → ℤ → List State → List ℤ → ℤ
failure by sum [] column = sum
failure by sum (state ∷ states) [] = sum
failure by sum (state ∷ states) (coef ∷ column) =
    failure by (held (sum +ℤ cost (held (coef *ℤ by)) state)) states column
