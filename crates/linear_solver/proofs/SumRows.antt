-- Rows that stay sums of the numbered rows, with their numbers in range.
use Rattle.std.proofs.Common.{◌≡◌, ℕ, ◌<◌, List, subst, sym}
use Rattle.linear_form.specs.declared.form.Row.{Row}
use Rattle.linear_form.specs.declared.form.Bound.{Bound}
use Rattle.linear_form.specs.System.{IsSystem}
use Rattle.linear_solver.specs.declared.derived.Derived.{Derived}
use Rattle.linear_solver.specs.Elimination.{IsSmall, first_row, numbered_count, sum_of}
use Rattle.linear_solver.specs.Follows.{IsSumRow}
use Rattle.linear_solver.specs.Shapes.{shape_of}
use Rattle.linear_solver.proofs.Extensions.{sum_shape}
use Rattle.linear_solver.proofs.FirstRows.{first_row_shape}
use Rattle.linear_solver.proofs.Follows.{first_follows, sum_follows}

module _ (bounds : List Bound) (rows : List Row) where
  pub first_is_sum : IsSystem (record { bounds = bounds; rows = rows }) → (number : ℕ) (row : Derived) → number < numbered_count bounds rows → row ≡ first_row bounds rows number → IsSumRow bounds rows row
  first_is_sum system number row known is =
      subst (IsSumRow bounds rows) (sym is) (record { in_range = first_row_shape bounds rows number system; follows = first_follows bounds rows number known })

  pub kept_is_sum : (x y : ℕ) (p q row : Derived) → IsSumRow bounds rows p → IsSumRow bounds rows q → row ≡ sum_of x y p q → IsSmall row → IsSumRow bounds rows row
  kept_is_sum x y p q row hp hq is small =
      subst (IsSumRow bounds rows) (sym is) (record {
        in_range = sum_shape (shape_of bounds rows) x y p q hp.in_range hq.in_range (subst IsSmall is small);
        follows = sum_follows bounds rows x y p q hp.follows hq.follows;
      })
