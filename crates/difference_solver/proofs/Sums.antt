-- Distances from rows: of none, of one, and of one distance behind another.
use Rattle.std.proofs.Common.{◌≡◌, ℕ, ◌+◌, ◌*◌, ◌<◌, List, [], ◌∷◌, ◌++◌, length, Some, ℤ, ◌+ℤ◌, refl, arith}
use Rattle.std.proofs.lemmas.Int.{ints}
use Rattle.std.proofs.lemmas.List.Elements.{All-nil, All-cons, All-append}
use Rattle.linear_form.specs.declared.form.Bound.{Bound}
use Rattle.linear_form.specs.declared.form.Row.{Row}
use Rattle.linear_form.specs.Sum.{sum_over}
use Rattle.linear_cert.specs.declared.rows.Column.TheVariants.{Variable, RightSide}
use Rattle.linear_cert.specs.Rows.{NamesRow, numbered_row}
use Rattle.linear_cert.specs.Columns.{entry, times}
use Rattle.difference_solver.specs.declared.distance.Distance.{Distance}
use Rattle.difference_solver.specs.Distance.{no_distance, distance_of_row, joined}
use Rattle.difference_solver.specs.Meaning.{IsDistance, IsEdge, IsOnce}

-- a sum over two lists
sum_over-append : {X : Type 0} (f : X → ℤ) (xs ys : List X) → sum_over f (xs ++ ys) ≡ sum_over f xs +ℤ sum_over f ys
sum_over-append f [] ys = omega (arith, ints)
sum_over-append f (x ∷ xs) ys = omega (arith, ints, sum_over-append f xs ys)

module _ (bounds : List Bound) (rows : List Row) where
  -- no row
  pub none_is_distance : (node : ℕ) → IsDistance bounds rows node node no_distance
  none_is_distance node = record {
    named = All-nil _;
    once = All-nil _;
    columns = λ v lt. omega (arith, ints);
    right = refl;
  }

  -- one row, times 1
  once_is : (number : ℕ) (value : Row → ℤ) (row : Row) → numbered_row bounds rows number ≡ Some row → times value bounds rows (record { row = number; by = 1 }) ≡ value row
  once_is number value row found = rw found (omega (arith, ints))

  pub row_is_distance : (number from to : ℕ) (row : Row) → numbered_row bounds rows number ≡ Some row → number < length rows + 2 * length bounds → IsEdge (length bounds) row.terms from to → IsDistance bounds rows from to (distance_of_row number row.bound)
  row_is_distance number from to row found lt edge = record {
    named = All-cons (NamesRow bounds rows) _ [] lt (All-nil _);
    once = All-cons IsOnce _ [] refl (All-nil _);
    columns = λ v lv. omega (arith, ints, once_is number (entry (Variable v)) row found, edge.columns v lv);
    right = omega (arith, ints, once_is number (entry RightSide) row found);
  }

  -- one distance behind another
  pub joined_is_distance : (from middle to : ℕ) (first second : Distance) → IsDistance bounds rows from middle first → IsDistance bounds rows middle to second → IsDistance bounds rows from to (joined first second)
  joined_is_distance from middle to first second one two = record {
    named = All-append (NamesRow bounds rows) first.mults second.mults one.named two.named;
    once = All-append IsOnce first.mults second.mults one.once two.once;
    columns = λ v lt. omega (arith, ints, sum_over-append (times (entry (Variable v)) bounds rows) first.mults second.mults, one.columns v lt, two.columns v lt);
    right = omega (arith, ints, sum_over-append (times (entry RightSide) bounds rows) first.mults second.mults, one.right, two.right);
  }
