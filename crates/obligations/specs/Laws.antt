-- Laws: what the names stand for, and that the systems say what the statements say.
use Rattle.std.specs.Prelude.{◌≡◌, ◌↔◌, List, All, map, length}
use Rattle.linear_form.specs.Difference.{IsDifference}
use Rattle.linear_form.specs.Solution.{HasNoSolution}
use Rattle.linear_form.specs.System.{LinearSystem}
use Rattle.policy_tree.specs.Meaning.{Meaning}
use Rattle.policy_eval.specs.Obligations.{BatchLeavesLast, FilterLeavesLast, IsMet, Statement, statements_of}
use Rattle.policy_eval.specs.Ranges.{AreIn}
use Rattle.policy_eval.specs.Resolved.{IsResolved}
use Rattle.policy_eval.specs.Values.{Assignment, Holds}
use Rattle.obligations.specs.declared.obligation.Obligation.{Obligation}
use Rattle.obligations.specs.declared.last_threads.LastWaiting.{LastWaiting}
use Rattle.obligations.specs.Names.{ob_names, statement_of}
use Rattle.obligations.specs.Counts.{case_count}
use Rattle.obligations.specs.DifferencePolicies.{ComparesDifferences}
use Rattle.obligations.specs.Refutations.{refutation}
use Rattle.obligations.specs.Systems.{refuting_cases, systems_of, variable_ranges}

-- The names are those of a policy's statements, in their order.
abbrev pub NamesAreStatements : Type 0
NamesAreStatements = (p : Meaning) → statements_of p ≡ map statement_of ob_names

-- the condition under which the statement fails holds of no values in the ranges
abbrev pub NoneRefutes : Meaning → Statement → Type 0
NoneRefutes p s = (values : Assignment) → AreIn (variable_ranges p) values → Holds values (refutation p s) → ⊥

-- A resolved policy meets a statement exactly where no values in its ranges refute the statement.
abbrev pub RefutationsAreTheirs : Type 0
RefutationsAreTheirs = (p : Meaning) → IsResolved p → (s : Statement) → IsMet p s ↔ NoneRefutes p s

-- no system of the list has a solution
abbrev pub HaveNoSolution : List LinearSystem → Type 0
HaveNoSolution systems = All (λ (system : LinearSystem). HasNoSolution system.bounds system.rows) systems

-- A resolved policy meets a statement exactly where none of the statement's systems has a solution in whole numbers.
abbrev pub SystemsAreStatements : Type 0
SystemsAreStatements = (p : Meaning) → IsResolved p → (s : Statement) → IsMet p s ↔ HaveNoSolution (systems_of p s)

-- There are as many cases as are counted.
abbrev pub CountsAreCases : Type 0
CountsAreCases = (p : Meaning) (s : Statement) → length (refuting_cases p s) ≡ case_count p s

-- Each obligation holds of the policy exactly where none of its systems has a solution.
abbrev pub SayTheStatements : Meaning → List Obligation → Type 0
SayTheStatements p all =
    All (λ (o : Obligation). IsMet p (statement_of o.name) ↔ HaveNoSolution o.systems) all

-- Both statements on the last waiting thread hold of the policy exactly where none of their systems has a solution.
abbrev pub SayTheLast : Meaning → LastWaiting → Type 0
SayTheLast p last =
    (FilterLeavesLast p ↔ HaveNoSolution last.filter.systems)
    × (BatchLeavesLast p p.batch ↔ HaveNoSolution last.batch.systems)

-- each system of the list is one of differences
abbrev pub AreOfDifferences : List LinearSystem → Type 0
AreOfDifferences systems = All (λ (system : LinearSystem). IsDifference system.rows) systems

-- Where threads are counted and each comparison is one of differences, each system of each statement is.
abbrev pub ComparisonsGiveDifferences : Type 0
ComparisonsGiveDifferences = (p : Meaning) → ComparesDifferences p → (s : Statement) → AreOfDifferences (systems_of p s)
