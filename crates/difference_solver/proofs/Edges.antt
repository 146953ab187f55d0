-- Each row with a number is the difference of two nodes. So what rows, each times 1, add up to stays small.
use Rattle.std.proofs.Common.{◌≡◌, ℕ, suc, ◌+◌, ◌-◌, ◌*◌, ◌/◌, ◌%◌, ◌^◌, ◌<◌, ◌≤◌, List, [], ◌∷◌, length, All, Some, get_or, ℤ, pos, negsuc, neg_ℤ, unsigned_abs, inl, inr, ap, subst, ◌∙◌, arith}
use Rattle.std.proofs.lemmas.Int.{ints}
use Rattle.std.proofs.lemmas.Bool.{cases_eq, cases_lt}
use Rattle.std.proofs.lemmas.Bool.Decides.{nat_tests}
use Rattle.std.proofs.lemmas.List.{get_or_past}
use Rattle.std.proofs.lemmas.Option.{slice_get-get_or}
use Rattle.linear_form.specs.declared.form.Bound.{Bound}
use Rattle.linear_form.specs.declared.form.Row.{Row}
use Rattle.linear_form.specs.Solution.{value_at}
use Rattle.linear_form.specs.System.{IsSystem}
use Rattle.linear_cert.specs.declared.cert.Mult.{Mult}
use Rattle.linear_cert.specs.declared.rows.Column.{Column}
use Rattle.linear_cert.specs.declared.rows.Column.TheVariants.{Variable, RightSide}
use Rattle.linear_cert.specs.Rows.{NamesRow, numbered_row, range_row, single_row, lower_row, upper_row}
use Rattle.linear_cert.specs.Columns.{column_sum, entry, times}
use Rattle.linear_cert.specs.Right.{range_of}
use Rattle.linear_cert.proofs.Numbered.{numbered_below, numbered_past, lower_at, upper_at}
use Rattle.difference_solver.specs.Meaning.{IsEdge, Keeps, IsOnce, unit}
use Rattle.difference_solver.specs.Distances.{Table}

-- the zero is no variable, and its value is 0
zero_value : (n : ℕ) (point : List ℤ) → length point ≡ n → value_at point n ≡ pos 0
zero_value n point same = get_or_past point n (pos 0) (omega arith)

zero_unit : (n v : ℕ) → v < n → unit n v ≡ pos 0
zero_unit n v lt = grind (arith, nat_tests)

-- one row of a range
pub lower_edge : (n v : ℕ) (bound : ℤ) → v < n → IsEdge n (single_row v (negsuc 0) bound).terms n v
lower_edge n v bound lt = record {
  from_known = omega arith;
  to_known = omega arith;
  columns = λ w lw. grind (arith, ints, nat_tests);
  value = λ point same. omega (arith, ints, zero_value n point same);
}

pub upper_edge : (n v : ℕ) (bound : ℤ) → v < n → IsEdge n (single_row v (pos 1) bound).terms v n
upper_edge n v bound lt = record {
  from_known = omega arith;
  to_known = omega arith;
  columns = λ w lw. grind (arith, ints, nat_tests);
  value = λ point same. omega (arith, ints, zero_value n point same);
}

-- the row with a number, and its nodes
pub record NamedEdge (bounds : List Bound) (rows : List Row) (number : ℕ) : Type 0 where
  pub row : Row
  pub from : ℕ
  pub to : ℕ
  pub found : numbered_row bounds rows number ≡ Some row
  pub edge : IsEdge (length bounds) row.terms from to
  pub small : unsigned_abs row.bound ≤ 2 ^ 62

module _ (bounds : List Bound) (rows : List Row) (system : IsSystem (record { bounds = bounds; rows = rows })) where
  pub lower_found : (v : ℕ) → v < length bounds → numbered_row bounds rows (length rows + 2 * v) ≡ Some (lower_row v (range_of bounds v))
  lower_found v lt =
      let place : length rows + 2 * v - length rows ≡ 2 * v = omega arith in
      let half : 2 * v / 2 ≡ v = omega arith in
      let here = lower_at bounds (2 * v) (record { lo = pos 0; hi = pos 0 }) (omega arith) (omega arith) in
      numbered_past bounds rows (length rows + 2 * v) (omega arith) ∙ ap (range_row bounds) place ∙ here ∙ ap (λ k. Some (lower_row k (range_of bounds k))) half

  pub upper_found : (v : ℕ) → v < length bounds → numbered_row bounds rows (length rows + 2 * v + 1) ≡ Some (upper_row v (range_of bounds v))
  upper_found v lt =
      let place : length rows + 2 * v + 1 - length rows ≡ 2 * v + 1 = omega arith in
      let half : (2 * v + 1) / 2 ≡ v = omega arith in
      let here = upper_at bounds (2 * v + 1) (record { lo = pos 0; hi = pos 0 }) (omega arith) (λ even. omega (arith, even)) in
      numbered_past bounds rows (length rows + 2 * v + 1) (omega arith) ∙ ap (range_row bounds) place ∙ here ∙ ap (λ k. Some (upper_row k (range_of bounds k))) half

  lower_named : (v : ℕ) → v < length bounds → NamedEdge bounds rows (length rows + 2 * v)
  lower_named v lt = let fits = system.bounds_fit v (record { lo = pos 0; hi = pos 0 }) lt in record {
    row = lower_row v (range_of bounds v);
    from = length bounds;
    to = v;
    found = lower_found v lt;
    edge = lower_edge (length bounds) v (neg_ℤ (range_of bounds v).lo) lt;
    small = omega (arith, ints, fits.low);
  }

  upper_named : (v : ℕ) → v < length bounds → NamedEdge bounds rows (length rows + 2 * v + 1)
  upper_named v lt = let fits = system.bounds_fit v (record { lo = pos 0; hi = pos 0 }) lt in record {
    row = upper_row v (range_of bounds v);
    from = v;
    to = length bounds;
    found = upper_found v lt;
    edge = upper_edge (length bounds) v (range_of bounds v).hi lt;
    small = omega (arith, ints, fits.high);
  }

  module _ (table : Table) (kept : All (Keeps (length bounds) table) rows) where
    row_named : (number : ℕ) → number < length rows → NamedEdge bounds rows number
    row_named number lt =
        let none : Row = record { terms = []; bound = pos 0 } in
        let keeps = kept number none lt in
        let fits = system.rows_fit number none lt in
        record {
          row = get_or rows number none;
          from = keeps.from;
          to = keeps.to;
          found = numbered_below bounds rows number lt ∙ slice_get-get_or rows number none lt;
          edge = keeps.edge;
          small = omega (arith, fits.bound);
        }

    range_named : (place : ℕ) → place < 2 * length bounds → NamedEdge bounds rows (length rows + place)
    range_named place lt = elim (cases_eq (place % 2) 0) [
      | inl even ↦
          let is : 2 * (place / 2) ≡ place = omega arith in
          subst (λ p. NamedEdge bounds rows (length rows + p)) is (lower_named (place / 2) (omega arith))
      | inr odd ↦
          let is : length rows + 2 * (place / 2) + 1 ≡ length rows + place = omega arith in
          subst (NamedEdge bounds rows) is (upper_named (place / 2) (omega arith))
    ]

    pub named_edge : (number : ℕ) → number < length rows + 2 * length bounds → NamedEdge bounds rows number
    named_edge number lt = elim (cases_lt number (length rows)) [
      | inl below ↦ row_named number below
      | inr past ↦
          let is : length rows + (number - length rows) ≡ number = omega arith in
          subst (NamedEdge bounds rows) is (range_named (number - length rows) (omega arith))
    ]

    -- an entry of a row, times 1, in the column of a variable or of the bounds
    pub data IsColumn : Column → Type 0 where
      of_variable : (v : ℕ) → v < length bounds → IsColumn (Variable v)
      of_bounds : IsColumn RightSide

    unit_small : (node v : ℕ) → unsigned_abs (unit node v) ≤ 1
    unit_small node v = grind (arith, ints, nat_tests)

    entry_small : (column : Column) → IsColumn column → (mult : Mult) → NamesRow bounds rows mult → IsOnce mult → unsigned_abs (times (entry column) bounds rows mult) ≤ 2 ^ 62
    entry_small (Variable v) (of_variable _ lt) mult named once =
        let e = named_edge mult.row named in
        let one : times (entry (Variable v)) bounds rows mult ≡ entry (Variable v) e.row = rw (e.found, once) (omega (arith, ints)) in
        let edge = e.edge in
        let sum = edge.columns v lt in
        let from = unit_small e.from v in
        let to = unit_small e.to v in
        omega (arith, ints, one, sum, from, to)
    entry_small RightSide of_bounds mult named once =
        let e = named_edge mult.row named in
        let one : times (entry RightSide) bounds rows mult ≡ entry RightSide e.row = rw (e.found, once) (omega (arith, ints)) in
        let small = e.small in
        omega (arith, ints, one, small)

    -- what so many rows add up to
    pub sum_small : (column : Column) → IsColumn column → (mults : List Mult) → All (NamesRow bounds rows) mults → All IsOnce mults → unsigned_abs (column_sum column bounds rows mults) ≤ length mults * 2 ^ 62
    sum_small column is [] named once = omega (arith, ints)
    sum_small column is (mult ∷ rest) named once =
        let first = entry_small column is mult (named 0 mult (omega arith)) (once 0 mult (omega arith)) in
        let after = sum_small column is rest (λ k d lt. named (suc k) d (omega arith)) (λ k d lt. once (suc k) d (omega arith)) in
        omega (arith, ints, first, after)
