-- The table that the ranges and the rows give is one to start from.
use Rattle.std.proofs.Common.{◌≡◌, ◌≢◌, ℕ, ◌+◌, ◌*◌, ◌<◌, ◌≤◌, ◌==◌, true, false, List, length, All, neg_ℤ, inl, inr, length-append, ap, sym, subst, ◌∙◌, refl, arith}
use Rattle.std.proofs.lemmas.Int.{ints}
use Rattle.std.proofs.lemmas.Bool.{cases_eq}
use Rattle.std.proofs.lemmas.Bool.Decides.{nat_tests}
use Rattle.linear_form.specs.declared.form.Bound.{Bound}
use Rattle.linear_form.specs.declared.form.Row.{Row}
use Rattle.linear_form.specs.System.{IsSystem}
use Rattle.linear_cert.specs.Rows.{lower_row, upper_row}
use Rattle.linear_cert.specs.Right.{range_of}
use Rattle.difference_solver.specs.declared.distance.Distance.{Distance}
use Rattle.difference_solver.specs.Distance.{no_distance, distance_of_row, joined}
use Rattle.difference_solver.specs.Distances.{Table}
use Rattle.difference_solver.specs.Meaning.{IsDistance, Keeps}
use Rattle.difference_solver.specs.Ranges.{HasRanges, lower_distance, range_distance, upper_distance}
use Rattle.difference_solver.specs.Shortening.{Shortens}
use Rattle.difference_solver.specs.Closing.{IsState, IsShortBehind}
use Rattle.difference_solver.proofs.Edges.{lower_edge, lower_found, upper_edge, upper_found}
use Rattle.difference_solver.proofs.Sums.{none_is_distance, row_is_distance, joined_is_distance}

module _ (bounds : List Bound) (rows : List Row) (system : IsSystem (record { bounds = bounds; rows = rows })) where
  -- the zero has no row of a range, a variable has two
  upper_at_zero : upper_distance bounds (length rows) (length bounds) ≡ no_distance
  upper_at_zero =
      let test : (length bounds == length bounds) ≡ true = grind (arith, nat_tests) in
      rw test refl

  upper_at_variable : (v : ℕ) → v < length bounds → upper_distance bounds (length rows) v ≡ distance_of_row (length rows + 2 * v + 1) (range_of bounds v).hi
  upper_at_variable v lt =
      let test : (v == length bounds) ≡ false = grind (arith, nat_tests) in
      rw test refl

  lower_at_zero : lower_distance bounds (length rows) (length bounds) ≡ no_distance
  lower_at_zero =
      let test : (length bounds == length bounds) ≡ true = grind (arith, nat_tests) in
      rw test refl

  lower_at_variable : (v : ℕ) → v < length bounds → lower_distance bounds (length rows) v ≡ distance_of_row (length rows + 2 * v) (neg_ℤ (range_of bounds v).lo)
  lower_at_variable v lt =
      let test : (v == length bounds) ≡ false = grind (arith, nat_tests) in
      rw test refl

  upper_is : (node : ℕ) → node ≤ length bounds → IsDistance bounds rows node (length bounds) (upper_distance bounds (length rows) node)
  upper_is node le = elim (cases_eq node (length bounds)) [
    | inl same ↦ subst (λ k. IsDistance bounds rows k (length bounds) (upper_distance bounds (length rows) k)) (sym same) (subst (IsDistance bounds rows (length bounds) (length bounds)) (sym upper_at_zero) (none_is_distance bounds rows (length bounds)))
    | inr other ↦
        let lt : node < length bounds = omega arith in
        let edge = upper_edge (length bounds) node (range_of bounds node).hi lt in
        subst (IsDistance bounds rows node (length bounds)) (sym (upper_at_variable node lt)) (row_is_distance bounds rows (length rows + 2 * node + 1) node (length bounds) (upper_row node (range_of bounds node)) (upper_found bounds rows system node lt) (omega arith) edge)
  ]

  lower_is : (node : ℕ) → node ≤ length bounds → IsDistance bounds rows (length bounds) node (lower_distance bounds (length rows) node)
  lower_is node le = elim (cases_eq node (length bounds)) [
    | inl same ↦ subst (λ k. IsDistance bounds rows (length bounds) k (lower_distance bounds (length rows) k)) (sym same) (subst (IsDistance bounds rows (length bounds) (length bounds)) (sym lower_at_zero) (none_is_distance bounds rows (length bounds)))
    | inr other ↦
        let lt : node < length bounds = omega arith in
        let edge = lower_edge (length bounds) node (neg_ℤ (range_of bounds node).lo) lt in
        subst (IsDistance bounds rows (length bounds) node) (sym (lower_at_variable node lt)) (row_is_distance bounds rows (length rows + 2 * node) (length bounds) node (lower_row node (range_of bounds node)) (lower_found bounds rows system node lt) (omega arith) edge)
  ]

  upper_short : (node : ℕ) → length (upper_distance bounds (length rows) node).mults ≤ 1
  upper_short node = grind (arith, nat_tests)

  lower_short : (node : ℕ) → length (lower_distance bounds (length rows) node).mults ≤ 1
  lower_short node = grind (arith, nat_tests)

  -- from a node to itself, and to another
  range_same : (node : ℕ) → range_distance bounds (length rows) node node ≡ no_distance
  range_same node =
      let test : (node == node) ≡ true = grind (arith, nat_tests) in
      rw test refl

  range_other : (i j : ℕ) → i ≢ j → range_distance bounds (length rows) i j ≡ joined (upper_distance bounds (length rows) i) (lower_distance bounds (length rows) j)
  range_other i j ne =
      let test : (i == j) ≡ false = grind (arith, nat_tests) in
      rw test refl

  range_is : (i j : ℕ) → i ≤ length bounds → j ≤ length bounds → IsDistance bounds rows i j (range_distance bounds (length rows) i j)
  range_is i j li lj = elim (cases_eq i j) [
    | inl same ↦ subst (λ k. IsDistance bounds rows k j (range_distance bounds (length rows) k j)) (sym same) (subst (IsDistance bounds rows j j) (sym (range_same j)) (none_is_distance bounds rows j))
    | inr other ↦ subst (IsDistance bounds rows i j) (sym (range_other i j other)) (joined_is_distance bounds rows i (length bounds) j _ _ (upper_is i li) (lower_is j lj))
  ]

  range_short : (i j : ℕ) → length (range_distance bounds (length rows) i j).mults ≤ length (upper_distance bounds (length rows) i).mults + length (lower_distance bounds (length rows) j).mults
  range_short i j = elim (cases_eq i j) [
    | inl same ↦
        let none : length (range_distance bounds (length rows) i j).mults ≡ 0 = rw same (ap (λ (d : Distance). length d.mults) (range_same j)) in
        omega (arith, none)
    | inr other ↦ omega (arith, ap (λ (d : Distance). length d.mults) (range_other i j other), length-append (upper_distance bounds (length rows) i).mults (lower_distance bounds (length rows) j).mults)
  ]

  module _ (ranges table : Table) (has : HasRanges bounds (length rows) ranges) (shortens : Shortens bounds rows ranges table) (kept : All (Keeps (length bounds) table) rows) where
    pub start_state : IsState bounds rows table
    start_state = record {
      size = shortens.size ∙ has.size;
      distances = λ i j li lj.
          let size = shortens.size ∙ has.size in
          let ri : i < ranges.size = omega (arith, li, shortens.size) in
          let rj : j < ranges.size = omega (arith, lj, shortens.size) in
          shortens.distances i j ri rj (subst (IsDistance bounds rows i j) (sym (has.each i j ri rj)) (range_is i j (omega (arith, ri, has.size)) (omega (arith, rj, has.size))));
      upper = λ v lv.
          let rv : v < ranges.size = omega (arith, lv, has.size) in
          let rn : length bounds < ranges.size = omega (arith, has.size) in
          let is = has.each v (length bounds) rv rn ∙ range_other v (length bounds) (omega (arith, lv)) in
          let up = ap (λ (d : Distance). d.bound) (upper_at_variable v lv) in
          let down = ap (λ (d : Distance). d.bound) lower_at_zero in
          omega (arith, ints, shortens.less v (length bounds) rv rn, ap (λ (d : Distance). d.bound) is, up, down);
      lower = λ v lv.
          let rv : v < ranges.size = omega (arith, lv, has.size) in
          let rn : length bounds < ranges.size = omega (arith, has.size) in
          let is = has.each (length bounds) v rn rv ∙ range_other (length bounds) v (omega (arith, lv)) in
          let up = ap (λ (d : Distance). d.bound) upper_at_zero in
          let down = ap (λ (d : Distance). d.bound) (lower_at_variable v lv) in
          omega (arith, ints, shortens.less (length bounds) v rn rv, ap (λ (d : Distance). d.bound) is, up, down);
      zero =
          let rn : length bounds < ranges.size = omega (arith, has.size) in
          let is = has.each (length bounds) (length bounds) rn rn ∙ range_same (length bounds) in
          omega (arith, ints, shortens.less (length bounds) (length bounds) rn rn, ap (λ (d : Distance). d.bound) is);
      kept = kept;
    }

    pub start_short : IsShortBehind 0 (length bounds) table
    start_short = record {
      each = λ i j li lj.
          let ri : i < ranges.size = omega (arith, li, shortens.size) in
          let rj : j < ranges.size = omega (arith, lj, shortens.size) in
          let is = ap (λ (d : Distance). length d.mults) (has.each i j ri rj) in
          shortens.short i j 2 ri rj (omega arith) (omega (arith, is, range_short i j, upper_short i, lower_short j));
      first = λ none k lk.
          let rk : k < ranges.size = omega (arith, lk, shortens.size) in
          let rn : length bounds < ranges.size = omega (arith, has.size) in
          let to = ap (λ (d : Distance). length d.mults) (has.each k (length bounds) rk rn) in
          let from = ap (λ (d : Distance). length d.mults) (has.each (length bounds) k rn rk) in
          let down = ap (λ (d : Distance). length d.mults) lower_at_zero in
          let up = ap (λ (d : Distance). length d.mults) upper_at_zero in (
            shortens.short k (length bounds) 1 rk rn (omega arith) (omega (arith, to, range_short k (length bounds), upper_short k, down)),
            shortens.short (length bounds) k 1 rn rk (omega arith) (omega (arith, from, range_short (length bounds) k, lower_short k, up)),
          );
    }
