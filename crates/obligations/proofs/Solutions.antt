-- A system of a case has a solution exactly where all rows of the case hold of some values in the ranges.
use Rattle.std.proofs.Common.{◌≡◌, ℕ, ◌<◌, ℤ, pos, ◌*ℤ◌, ◌+ℤ◌, ◌≤ℤ◌, Bool, true, false, cond, List, [], ◌∷◌, map, get_or, refl, sym, ap, ap₂, ◌∙◌, subst, arith}
use Rattle.std.specs.List.{AllByRecursion, AllZip}
use Rattle.std.proofs.lemmas.Int.{ints}
use Rattle.std.proofs.lemmas.List.{get_or-map, length-map}
use Rattle.policy_tree.specs.Meaning.{Meaning}
use Rattle.policy_eval.specs.Ranges.{AreIn, IsIn}
use Rattle.policy_eval.specs.Resolved.{IsResolved}
use Rattle.policy_eval.specs.Values.{Assignment, variable_of}
use Rattle.linear_form.specs.declared.form.Term.{Term}
use Rattle.linear_form.specs.declared.form.Row.{Row}
use Rattle.linear_form.specs.Solution.{IsWithin, RowHolds, Solves, left_side, value_at}
use Rattle.linear_form.proofs.Points.{rows_by_parts, solves_by_parts}
use Rattle.obligations.specs.Systems.{bound_of, kept_below, place_of, placed, variable_ranges}
use Rattle.obligations.proofs.Folds.{case_holds, row_holds}
use Rattle.obligations.proofs.Tests.{and_true, le_told, le_tells, true_and}
use Rattle.obligations.proofs.Kept.{IsKept, all_kept, first_values, first_values-at, kept_at, length-first_values, place_inside}
use Rattle.obligations.proofs.Occurring.{HasKept}
use Rattle.obligations.proofs.Ranges.{AllByRecursion-at, AreIn-at, AreIn-each, IsNotEmpty, length-variable_ranges, none, variable_ranges-not_empty}

-- the point gives to the place of each kept variable the variable's value
abbrev pub Agrees : (ℕ → Bool) → List ℤ → Assignment → Type 0
Agrees keeps point values = (v : ℕ) → IsKept keeps 30 v → value_at point (place_of keeps v) ≡ variable_of values v

module _ (keeps : ℕ → Bool) (point : List ℤ) (values : Assignment) (agrees : Agrees keeps point values) where
  placed-value : (terms : List Term) → AllByRecursion (λ (term : Term). IsKept keeps 30 term.var) terms
      → left_side point (map (λ (term : Term). record { var = place_of keeps term.var; coef = term.coef }) terms) ≡ left_side values terms
  placed-value [] kept = refl
  placed-value (term ∷ terms) kept =
      ap₂ (λ x y. term.coef *ℤ x +ℤ y) (agrees term.var kept.0) (placed-value terms kept.1)

  case_to_rows : (rows : List Row) → AllByRecursion (HasKept keeps 30) rows → case_holds values rows ≡ true → AllByRecursion (RowHolds point) (map (placed keeps) rows)
  case_to_rows [] kept holds = tt
  case_to_rows (row ∷ rows) kept holds =
      let parts = and_true (row_holds values row) (case_holds values rows) holds in
      let here : left_side values row.terms ≤ℤ row.bound = le_tells (left_side values row.terms) row.bound parts.0 in
      (subst (λ x. x ≤ℤ row.bound) (sym (placed-value row.terms kept.0)) here, case_to_rows rows kept.1 parts.1)

  rows_to_case : (rows : List Row) → AllByRecursion (HasKept keeps 30) rows → AllByRecursion (RowHolds point) (map (placed keeps) rows) → case_holds values rows ≡ true
  rows_to_case [] kept hold = refl
  rows_to_case (row ∷ rows) kept hold =
      let here : left_side values row.terms ≤ℤ row.bound = subst (λ x. x ≤ℤ row.bound) (placed-value row.terms kept.0) hold.0 in
      true_and (row_holds values row) (case_holds values rows) (le_told (left_side values row.terms) row.bound here) (rows_to_case rows kept.1 hold.1)

-- the values of the kept variables
abbrev pub point_of : (ℕ → Bool) → Assignment → List ℤ
point_of keeps values = map (variable_of values) (kept_below keeps 30)

point_of-agrees : (keeps : ℕ → Bool) (values : Assignment) → Agrees keeps (point_of keeps values) values
point_of-agrees keeps values v is =
    get_or-map (variable_of values) (kept_below keeps 30) (place_of keeps v) 0 (pos 0) (place_inside keeps 30 v is.1 is.0)
    ∙ ap (variable_of values) (kept_at keeps 30 v 0 is.1 is.0)

module _ (p : Meaning) (is : IsResolved p) (keeps : ℕ → Bool) where
  within : (values : Assignment) → AreIn (variable_ranges p) values → (vars : List ℕ) → AllByRecursion (IsKept keeps 30) vars
      → AllZip IsWithin (map (bound_of p) vars) (map (variable_of values) vars)
  within values are [] kept = tt
  within values are (v ∷ vars) kept =
      let inside = AreIn-at (variable_ranges p) values v (let below = kept.0.1 in let long = length-variable_ranges p is in omega arith) are in
      ((inside.above, inside.below), within values are vars kept.1)

  -- values in the ranges at which the rows hold give a solution
  pub solution_from : (values : Assignment) → AreIn (variable_ranges p) values → (rows : List Row) → AllByRecursion (HasKept keeps 30) rows → case_holds values rows ≡ true
      → Solves (map (bound_of p) (kept_below keeps 30)) (map (placed keeps) rows) (point_of keeps values)
  solution_from values are rows kept holds =
      solves_by_parts (map (bound_of p) (kept_below keeps 30)) (map (placed keeps) rows) (point_of keeps values)
      (within values are (kept_below keeps 30) (all_kept keeps 30))
      (case_to_rows keeps (point_of keeps values) values (point_of-agrees keeps values) rows kept holds)

  -- the value of a variable at a point: that of its place, and one in its range where it isn't kept
  abbrev spread : List ℤ → ℕ → ℤ
  spread point v = cond (keeps v) (value_at point (place_of keeps v)) (get_or (variable_ranges p) v none).low

  kept-within : (rows : List Row) (point : List ℤ) → Solves (map (bound_of p) (kept_below keeps 30)) rows point → (v : ℕ) → v < 30 → keeps v ≡ true
      → IsWithin (bound_of p v) (value_at point (place_of keeps v))
  kept-within rows point solves v lt kept =
      let vars : List ℕ = kept_below keeps 30 in
      let inside = place_inside keeps 30 v lt kept in
      let long = length-map vars (bound_of p) in
      let here = get_or-map (bound_of p) vars (place_of keeps v) 0 (bound_of p 0) inside ∙ ap (bound_of p) (kept_at keeps 30 v 0 lt kept) in
      subst (λ b. IsWithin b (value_at point (place_of keeps v))) here (solves.within (place_of keeps v) (bound_of p 0) (omega arith))

  spread-in : (rows : List Row) (point : List ℤ) → Solves (map (bound_of p) (kept_below keeps 30)) rows point → (v : ℕ) → v < 30 → IsIn (get_or (variable_ranges p) v none) (spread point v)
  spread-in rows point solves v lt = by (keeps v) refl
    where
      by : (b : Bool) → keeps v ≡ b → IsIn (get_or (variable_ranges p) v none) (cond b (value_at point (place_of keeps v)) (get_or (variable_ranges p) v none).low)
      by true kept = let inside = kept-within rows point solves v lt kept in record { above = inside.0; below = inside.1 }
      by false e =
          let full = AllByRecursion-at IsNotEmpty (variable_ranges p) v none (let long = length-variable_ranges p is in omega arith) (variable_ranges-not_empty p is) in
          record { above = omega (arith, ints); below = full }

  -- the values of all variables at a point
  pub values_of : List ℤ → Assignment
  values_of point = first_values (spread point) 30

  pub values_of-agrees : (point : List ℤ) → Agrees keeps point (values_of point)
  unfolding values_of
  values_of-agrees point v kept =
      sym (first_values-at (spread point) 30 v (pos 0) kept.1 ∙ ap (λ b. cond b (value_at point (place_of keeps v)) (get_or (variable_ranges p) v none).low) kept.0)

  -- a solution gives values in the ranges
  pub values_of-in : (rows : List Row) (point : List ℤ) → Solves (map (bound_of p) (kept_below keeps 30)) rows point → AreIn (variable_ranges p) (values_of point)
  unfolding values_of
  values_of-in rows point solves =
      let long = length-variable_ranges p is in
      AreIn-each (variable_ranges p) (first_values (spread point) 30) (length-first_values (spread point) 30 ∙ sym long)
      (λ k lt.
      let below : k < 30 = omega arith in
      subst (λ x. IsIn (get_or (variable_ranges p) k none) x) (sym (first_values-at (spread point) 30 k (pos 0) below)) (spread-in rows point solves k below))

  -- at which the rows hold
  pub values_of-hold : (rows : List Row) (point : List ℤ) → AllByRecursion (HasKept keeps 30) rows → Solves (map (bound_of p) (kept_below keeps 30)) (map (placed keeps) rows) point
      → case_holds (values_of point) rows ≡ true
  values_of-hold rows point kept solves =
      rows_to_case keeps point (values_of point) (values_of-agrees point) rows kept (rows_by_parts (map (bound_of p) (kept_below keeps 30)) (map (placed keeps) rows) point solves)
