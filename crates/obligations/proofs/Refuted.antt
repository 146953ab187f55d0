-- No system of a statement has a solution exactly where no values in the ranges refute the statement.
use Rattle.std.proofs.Common.{◌≡◌, pos, true, List, [], ◌∷◌, map, sym, ◌∙◌, arith, eqb-true, ⊎_elim}
use Rattle.std.specs.List.{AllByRecursion}
use Rattle.std.proofs.lemmas.Int.{ints}
use Rattle.std.proofs.lemmas.List.Elements.{All-from_recursion, recursion_from_All}
use Rattle.policy_tree.specs.Meaning.{Meaning}
use Rattle.policy_eval.specs.Obligations.{Statement}
use Rattle.policy_eval.specs.Ranges.{AreIn, IsIn, greatest_weight, least_weight, range}
use Rattle.policy_eval.specs.Resolved.{IsResolved}
use Rattle.policy_eval.specs.Values.{Assignment, holds, variable_of}
use Rattle.linear_form.specs.declared.form.Row.{Row}
use Rattle.linear_form.specs.Solution.{HasNoSolution}
use Rattle.linear_form.specs.System.{LinearSystem}
use Rattle.policy_tree.specs.declared.variables.TheConstants.{WEIGHT}
use Rattle.obligations.specs.Laws.{HaveNoSolution, NoneRefutes}
use Rattle.obligations.specs.Refutations.{refutation}
use Rattle.obligations.specs.Systems.{always_has, has_variable, occurs, refuting_cases, system_of_case, systems_of, variable_ranges}
use Rattle.obligations.proofs.Tests.{or_left, or_right, or_true}
use Rattle.obligations.proofs.Folds.{case_holds, some_holds}
use Rattle.obligations.proofs.Linear.{refutation-linear}
use Rattle.obligations.proofs.Normal.{FitsLoad, cases_of-value}
use Rattle.obligations.proofs.Occurring.{AllRows, HasKept, cases_below, kept_cases}
use Rattle.obligations.proofs.Ranges.{AreIn-at, AreIn-long, length-variable_ranges}
use Rattle.obligations.proofs.Solutions.{point_of, solution_from, values_of, values_of-hold, values_of-in}

module _ (p : Meaning) (is : IsResolved p) where
  -- where all threads weigh the same, the weight is what they weigh
  pub fits_load : (values : Assignment) → AreIn (variable_ranges p) values → FitsLoad p.load values
  fits_load values are = record {
    all = AreIn-long (variable_ranges p) values are ∙ length-variable_ranges p is;
    weight = λ same. only_weight (eqb-true (least_weight p.load) (greatest_weight p.load) same)
        (AreIn-at (variable_ranges p) values WEIGHT (let long = length-variable_ranges p is in omega arith) are);
  }
    where
      only_weight : least_weight p.load ≡ greatest_weight p.load → IsIn (range (pos (least_weight p.load)) (pos (greatest_weight p.load))) (variable_of values WEIGHT)
          → variable_of values WEIGHT ≡ pos (least_weight p.load)
      only_weight same inside = let above = inside.above in let below = inside.below in omega (arith, ints)

  module _ (s : Statement) where
    pub all_kept_rows : AllRows (HasKept (has_variable p s) 30) (refuting_cases p s)
    all_kept_rows =
        kept_cases (has_variable p s) 30 (refuting_cases p s) (λ v found. or_right (always_has s v) (occurs v (refuting_cases p s)) found)
        (cases_below p.load true (refutation p s))

    -- a refutation is a case whose rows all hold
    refutes : (values : Assignment) → AreIn (variable_ranges p) values → some_holds values (refuting_cases p s) ≡ holds values (refutation p s)
    refutes values are = cases_of-value p.load values (fits_load values are) true (refutation p s) (refutation-linear p is s)

    -- of the systems of some cases
    none_holds : (cases : List (List Row)) → AllRows (HasKept (has_variable p s) 30) cases
        → AllByRecursion (λ (system : LinearSystem). HasNoSolution system.bounds system.rows) (map (system_of_case p s) cases)
        → (values : Assignment) → AreIn (variable_ranges p) values → some_holds values cases ≡ true → ⊥
    none_holds [] kept unsolved values are holds = absurd (cc)
    none_holds (rows ∷ cases) kept unsolved values are holds =
        ⊎_elim
        (λ here. unsolved.0 (point_of (has_variable p s) values) (solution_from p is (has_variable p s) values are rows kept.0 here))
        (λ later. none_holds cases kept.1 unsolved.1 values are later)
        (or_true (case_holds values rows) (some_holds values cases) holds)

    none_solved : (cases : List (List Row)) → AllRows (HasKept (has_variable p s) 30) cases
        → ((values : Assignment) → AreIn (variable_ranges p) values → some_holds values cases ≡ true → ⊥)
        → AllByRecursion (λ (system : LinearSystem). HasNoSolution system.bounds system.rows) (map (system_of_case p s) cases)
    none_solved [] kept never = tt
    none_solved (rows ∷ cases) kept never = (
      λ point solves. never (values_of p is (has_variable p s) point) (values_of-in p is (has_variable p s) (system_of_case p s rows).rows point solves)
          (or_left (case_holds (values_of p is (has_variable p s) point) rows) (some_holds (values_of p is (has_variable p s) point) cases)
          (values_of-hold p is (has_variable p s) rows point kept.0 solves)),
      none_solved cases kept.1 (λ values are e. never values are (or_right (case_holds values rows) (some_holds values cases) e)),
    )

    pub no_solution_refutes : HaveNoSolution (systems_of p s) → NoneRefutes p s
    no_solution_refutes unsolved values are holds =
        none_holds (refuting_cases p s) all_kept_rows (recursion_from_All _ (systems_of p s) unsolved) values are (refutes values are ∙ holds)

    pub none_refutes_no_solution : NoneRefutes p s → HaveNoSolution (systems_of p s)
    none_refutes_no_solution none =
        All-from_recursion _ (systems_of p s) (none_solved (refuting_cases p s) all_kept_rows (λ values are e. none values are (sym (refutes values are) ∙ e)))
