-- The numbered rows have the shape of derived rows.
use Rattle.std.proofs.Common.{ℕ, ◌^◌, ◌≤◌, ◌==◌, if◌then◌else◌, true, false, List, length, pos, unsigned_abs, arith}
use Rattle.std.specs.List.{range_with_len}
use Rattle.std.proofs.lemmas.Int.{ints}
use Rattle.std.proofs.lemmas.List.Elements.{All-map}
use Rattle.std.proofs.lemmas.List.FromFn.{length-map-range_with_len}
use Rattle.linear_form.specs.declared.form.Row.{Row}
use Rattle.linear_form.specs.declared.form.Bound.{Bound}
use Rattle.linear_form.specs.System.{IsSystem}
use Rattle.linear_cert.specs.declared.rows.Column.TheVariants.{Variable, RightSide}
use Rattle.linear_solver.specs.Sums.{IsAtMost}
use Rattle.linear_solver.specs.Elimination.{first_row, number_in, numbered_count, once}
use Rattle.linear_solver.specs.Shapes.{HasShape, shape_of}
use Rattle.linear_solver.proofs.Magnitudes.{number_small}

once_small : (same : _) → unsigned_abs (if same then pos 1 else pos 0) ≤ 2 ^ 48
once_small true = omega (arith, ints)
once_small false = omega (arith, ints)

pub first_row_shape : (bounds : List Bound) (rows : List Row) (number : ℕ) → IsSystem (record { bounds = bounds; rows = rows }) → HasShape (shape_of bounds rows) (first_row bounds rows number)
first_row_shape bounds rows number is = record {
  coefs = length-map-range_with_len (λ variable. number_in (Variable variable) bounds rows number) 0 (length bounds);
  mults = length-map-range_with_len (once number) 0 (numbered_count bounds rows);
  small = record {
    coefs = All-map (IsAtMost (2 ^ 62)) (λ variable. number_in (Variable variable) bounds rows number) (range_with_len 0 (length bounds)) (λ k d lt. number_small bounds rows is (Variable _) number);
    bound = number_small bounds rows is RightSide number;
    mults = All-map (IsAtMost (2 ^ 48)) (once number) (range_with_len 0 (numbered_count bounds rows)) (λ k d lt. once_small (_ == number));
  };
}
