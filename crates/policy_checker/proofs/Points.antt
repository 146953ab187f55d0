-- The point of an answer shows values at which the statement fails.
use Rattle.std.proofs.Common.{◌≡◌, ℕ, zero, suc, ◌≤◌, ◌+◌, ℤ, pos, Bool, true, false, cond, inl, inr, List, [], ◌∷◌, ◌++◌, map, take, length, refl, sym, ap, ◌∙◌, subst, arith}
use Rattle.std.proofs.lemmas.List.{append-nil, length-map, length_push, map-append, take_all, take_more}
use Rattle.policy_tree.specs.Meaning.{Meaning}
use Rattle.policy_eval.specs.Obligations.{Statement}
use Rattle.policy_eval.specs.Ranges.{AreIn}
use Rattle.policy_eval.specs.Resolved.{IsResolved}
use Rattle.policy_eval.specs.Values.{Assignment, variable_of}
use Rattle.linear_form.specs.declared.form.Row.{Row}
use Rattle.linear_form.specs.Solution.{Solves, value_at}
use Rattle.obligations.specs.Refutations.{refutation}
use Rattle.obligations.specs.Systems.{bound_of, has_variable, kept_below, refuting_cases, system_of_case, variable_ranges, variables_of}
use Rattle.obligations.proofs.Folds.{case_holds, some_holds}
use Rattle.obligations.proofs.Occurring.{AllRows, HasKept}
use Rattle.obligations.proofs.Linear.{refutation-linear}
use Rattle.obligations.proofs.Normal.{cases_of-value}
use Rattle.obligations.proofs.Refuted.{all_kept_rows, fits_load}
use Rattle.obligations.proofs.Solutions.{Agrees, values_of, values_of-agrees, values_of-hold, values_of-in}
use Rattle.obligations.proofs.Tests.{or_left, or_right}
use Rattle.policy_checker.specs.Answers.{IsFirstSolved}
use Rattle.policy_checker.specs.Laws.{PointsRefute}

-- the values of the kept variables below a number are the first of the point
module _ (keeps : ℕ → Bool) (point : List ℤ) (values : Assignment) (agrees : Agrees keeps point values) where
  shown_below : (n : ℕ) → n ≤ 30 → length (kept_below keeps n) ≤ length point → map (variable_of values) (kept_below keeps n) ≡ take (length (kept_below keeps n)) point
  shown_below zero small few = refl
  shown_below (suc v) small few = by (λ fits. shown_below v (omega arith) fits) (keeps v) refl few
    where
      by : (length (kept_below keeps v) ≤ length point → map (variable_of values) (kept_below keeps v) ≡ take (length (kept_below keeps v)) point)
          → (b : Bool) → keeps v ≡ b → length (kept_below keeps v ++ cond b (v ∷ []) []) ≤ length point
          → map (variable_of values) (kept_below keeps v ++ cond b (v ∷ []) []) ≡ take (length (kept_below keeps v ++ cond b (v ∷ []) [])) point
      by rest true kept fits =
          let front : List ℕ = kept_below keeps v in
          let one_more : length (front ++ v ∷ []) ≡ length front + 1 = length_push front v in
          let here : value_at point (length front) ≡ variable_of values v = agrees v (kept, omega arith) in
          map-append (variable_of values) front (v ∷ [])
          ∙ (ap (λ xs. xs ++ variable_of values v ∷ []) (rest (omega arith))
          ∙ (ap (λ x. take (length front) point ++ x ∷ []) (sym here)
          ∙ (sym (take_more point (length front) (pos 0) (omega arith)) ∙ ap (λ k. take k point) (sym one_more))))
      by rest false kept fits =
          let same : kept_below keeps v ++ [] ≡ kept_below keeps v = append-nil (kept_below keeps v) in
          let fits' : length (kept_below keeps v) ≤ length point = subst (λ xs. length xs ≤ length point) same fits in
          subst (λ xs. map (variable_of values) xs ≡ take (length xs) point) (sym same) (rest fits')

module _ (p : Meaning) (is : IsResolved p) (s : Statement) where
  -- the values that a point gives
  abbrev shown_values : List ℤ → Assignment
  shown_values point = values_of p is (has_variable p s) point

  shown : (rows : List Row) (point : List ℤ) → Solves (system_of_case p s rows).bounds (system_of_case p s rows).rows point
      → map (variable_of (shown_values point)) (variables_of p s) ≡ point
  shown rows point solves =
      let long : length point ≡ length (variables_of p s) = solves.one_each ∙ length-map (variables_of p s) (bound_of p) in
      shown_below (has_variable p s) point (shown_values point) (values_of-agrees p is (has_variable p s) point) 30 (omega arith) (omega arith)
      ∙ take_all (length (variables_of p s)) point (omega arith)

  -- a solution of a case shows a failure
  record Shows (cases : List (List Row)) (point : List ℤ) : Type 0 where
    in_range : AreIn (variable_ranges p) (shown_values point)
    hold : some_holds (shown_values point) cases ≡ true
    shown_are : map (variable_of (shown_values point)) (variables_of p s) ≡ point

  shows : (budget : ℕ) (cases : List (List Row)) (point : List ℤ) → AllRows (HasKept (has_variable p s) 30) cases
      → IsFirstSolved budget (map (system_of_case p s) cases) point → Shows cases point
  shows budget [] point kept found = absurd found
  shows budget (rows ∷ cases) point kept (inl here) = record {
    in_range = values_of-in p is (has_variable p s) (system_of_case p s rows).rows point here.1;
    hold = or_left (case_holds (shown_values point) rows) (some_holds (shown_values point) cases) (values_of-hold p is (has_variable p s) rows point kept.0 here.1);
    shown_are = shown rows point here.1;
  }
  shows budget (rows ∷ cases) point kept (inr later) =
      let rest = shows budget cases point kept.1 later.1 in
      record {
        in_range = rest.in_range;
        hold = or_right (case_holds (shown_values point) rows) (some_holds (shown_values point) cases) rest.hold;
        shown_are = rest.shown_are;
      }

pub points_refute : PointsRefute
points_refute p is s budget point found =
    let shows = shows p is s budget (refuting_cases p s) point (all_kept_rows p is s) found in
    record {
      values = shown_values p is s point;
      in_range = shows.in_range;
      refute = sym (cases_of-value p.load (shown_values p is s point) (fits_load p is (shown_values p is s point) shows.in_range) true (refutation p s) (refutation-linear p is s)) ∙ shows.hold;
      shown = shows.shown_are;
    }
