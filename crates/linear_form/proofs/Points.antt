-- A solution by its parts, one after another. On lists that are written out these compute to pairs of facts on numbers.
use Rattle.std.proofs.Common.{◌≡◌, ℕ, zero, suc, ◌<◌, List, [], ◌∷◌, length, get_or, ℤ, pos, ap, refl, arith}
use Rattle.std.specs.List.{AllZip, AllByRecursion}
use Rattle.std.proofs.lemmas.List.Elements.{All-from_recursion, recursion_from_All}
use Rattle.linear_form.specs.declared.form.Row.{Row}
use Rattle.linear_form.specs.declared.form.Bound.{Bound}
use Rattle.linear_form.specs.Solution.{IsWithin, RowHolds, Solves, value_at}

as_long : (bounds : List Bound) (point : List ℤ) → AllZip IsWithin bounds point → length point ≡ length bounds
as_long [] [] within = refl
as_long [] (x ∷ point) within = absurd within
as_long (b ∷ bounds) [] within = absurd within
as_long (b ∷ bounds) (x ∷ point) within = ap suc (as_long bounds point within.1)

within_at : (bounds : List Bound) (point : List ℤ) → AllZip IsWithin bounds point → (k : ℕ) (d : Bound) → k < length bounds → IsWithin (get_or bounds k d) (value_at point k)
within_at [] point within k d lt = absurd (omega arith)
within_at (b ∷ bounds) [] within k d lt = absurd within
within_at (b ∷ bounds) (x ∷ point) within zero d lt = within.0
within_at (b ∷ bounds) (x ∷ point) within (suc k) d lt = within_at bounds point within.1 k d (omega arith)

-- a point in the ranges at which the rows hold is a solution
pub solves_by_parts : (bounds : List Bound) (rows : List Row) (point : List ℤ) → AllZip IsWithin bounds point → AllByRecursion (RowHolds point) rows → Solves bounds rows point
solves_by_parts bounds rows point within hold = record {
  one_each = as_long bounds point within;
  within = within_at bounds point within;
  rows_hold = All-from_recursion (RowHolds point) rows hold;
}

each_within : (bounds : List Bound) (point : List ℤ) → length point ≡ length bounds → ((k : ℕ) (d : Bound) → k < length bounds → IsWithin (get_or bounds k d) (get_or point k (pos 0))) → AllZip IsWithin bounds point
each_within [] [] same within = tt
each_within [] (x ∷ point) same within = absurd (omega arith)
each_within (b ∷ bounds) [] same within = absurd (omega arith)
each_within (b ∷ bounds) (x ∷ point) same within =
    (within 0 b (omega arith), each_within bounds point (omega arith) (λ k d lt. within (suc k) d (omega arith)))

-- the values of a solution lie in the ranges
pub ranges_by_parts : (bounds : List Bound) (rows : List Row) (point : List ℤ) → Solves bounds rows point → AllZip IsWithin bounds point
ranges_by_parts bounds rows point solves = each_within bounds point solves.one_each solves.within

-- and each row holds there
pub rows_by_parts : (bounds : List Bound) (rows : List Row) (point : List ℤ) → Solves bounds rows point → AllByRecursion (RowHolds point) rows
rows_by_parts bounds rows point solves = recursion_from_All (RowHolds point) rows solves.rows_hold
