-- Certificates and answers say the truth.
use Rattle.std.proofs.Common.{ℕ, suc, ℤ, inl, inr, List, [], ◌∷◌, Option, map, refl, subst, sym, arith}
use Rattle.std.specs.List.{All, AllByRecursion, AllZip, Contains}
use Rattle.std.proofs.lemmas.List.Elements.{All-from_recursion, recursion_from_All}
use Rattle.sched_base.specs.declared.limits.TheConstants.{CHECK_BUDGET}
use Rattle.linear_form.specs.Solution.{HasNoSolution}
use Rattle.linear_form.specs.System.{LinearSystem}
use Rattle.linear_cert.specs.declared.cert.Cert.{Cert}
use Rattle.linear_cert.specs.Right.{CertTree, cert_tree}
use Rattle.linear_cert.proofs.Sound.{no_solution}
use Rattle.linear_solver.specs.Elimination.{IsOpen}
use Rattle.policy_tree.specs.Meaning.{Meaning}
use Rattle.policy_eval.specs.Obligations.{IsMet, MeetsObligations, Statement}
use Rattle.policy_eval.specs.Resolved.{IsResolved}
use Rattle.obligations.specs.declared.names.ObName.{ObName}
use Rattle.obligations.specs.Names.{ob_names, statement_of}
use Rattle.obligations.specs.Systems.{systems_of}
use Rattle.obligations.proofs.Law.{names_are_statements, systems_are_statements}
use Rattle.policy_checker.specs.Answers.{AllRefuted, IsAnswer, IsFirstLeft, IsFirstSolved, IsLeft}
use Rattle.policy_checker.specs.Certified.{Certifies, IsCertified}
use Rattle.policy_checker.specs.Laws.{AnswersAreTrue, CertifiedMeet, StatementsAreTrue}
use Rattle.policy_checker.specs.Outcomes.{HasOpen, IsTrueOf, outcome_of}
use Rattle.policy_checker.specs.Refuted.{Refutes}
use Rattle.policy_checker.specs.declared.answer.ObAnswer.{ObAnswer}
use Rattle.policy_checker.specs.declared.answer.ObAnswer.TheVariants as answer

-- no list of numbers solves the system
abbrev Unsolved : LinearSystem → Type 0
Unsolved system = HasNoSolution system.bounds system.rows

none_solves : (system : LinearSystem) (tree : CertTree) → Refutes system tree → Unsolved system
none_solves system tree refutes = no_solution system.bounds system.rows tree refutes.right

pub all_unsolved : (systems : List LinearSystem) (trees : List CertTree) → AllZip Refutes systems trees → AllByRecursion Unsolved systems
all_unsolved [] [] all = tt
all_unsolved [] (tree ∷ trees) all = absurd all
all_unsolved (system ∷ systems) [] all = absurd all
all_unsolved (system ∷ systems) (tree ∷ trees) all = (none_solves system tree all.0, all_unsolved systems trees all.1)

pub certified_unsolved : (budget : ℕ) (systems : List LinearSystem) (certs : List Cert) → AllRefuted budget systems certs → AllByRecursion Unsolved systems
certified_unsolved budget [] [] all = tt
certified_unsolved budget [] (cert ∷ certs) all = absurd all
certified_unsolved budget (system ∷ systems) [] all = absurd all
certified_unsolved budget (system ∷ systems) (cert ∷ certs) all =
    (none_solves system (cert_tree cert) all.0.1, certified_unsolved budget systems certs all.1)

solved_one : (budget : ℕ) (systems : List LinearSystem) (point : List ℤ) → IsFirstSolved budget systems point → AllByRecursion Unsolved systems → ⊥
solved_one budget [] point is all = is
solved_one budget (system ∷ systems) point (inl here) all = all.0 point here.1
solved_one budget (system ∷ systems) point (inr later) all = solved_one budget systems point later.1 all.1

-- a system that was left undecided under the budget of the program is open
is_open : (system : LinearSystem) → IsLeft CHECK_BUDGET system → IsOpen system.bounds system.rows
is_open system left = record {
  many = left.stays.many;
  no_differences = left.no_differences;
  unrefuted = left.stays.unrefuted (omega arith);
}

left_open : (systems : List LinearSystem) (points : Option ℕ) → IsFirstLeft CHECK_BUDGET systems points → HasOpen systems
left_open [] points is = absurd is
left_open (system ∷ systems) points (inl here) = (system, (0, omega arith, refl), is_open system here.0.0)
left_open (system ∷ systems) points (inr later) =
    let rest = left_open systems points later.1 in
    let inside : Contains systems rest.0 = rest.1 in
    (rest.0, (suc inside.0, (let lt = inside.1 in omega arith), inside.2), rest.2)

module _ (p : Meaning) (is : IsResolved p) where
  pub met_if : (s : Statement) → AllByRecursion Unsolved (systems_of p s) → IsMet p s
  met_if s all = (systems_are_statements p is s).1 (All-from_recursion Unsolved (systems_of p s) all)

  met_where : (s : Statement) → IsMet p s → AllByRecursion Unsolved (systems_of p s)
  met_where s met = recursion_from_All Unsolved (systems_of p s) ((systems_are_statements p is s).0 met)

  pub told : (s : Statement) (answer : ObAnswer) → IsAnswer CHECK_BUDGET (systems_of p s) answer → IsTrueOf p s (outcome_of answer)
  told s (answer.Holds certs) all = met_if s (certified_unsolved CHECK_BUDGET (systems_of p s) certs all)
  told s (answer.Fails point) solved = λ met. solved_one CHECK_BUDGET (systems_of p s) point.vals solved (met_where s met)
  told s (answer.Undecided points) left = left_open (systems_of p s) points left

  met_all : (names : List ObName) (certs : List (List CertTree)) → AllZip (Certifies p) names certs → AllByRecursion (IsMet p) (map statement_of names)
  met_all [] [] all = tt
  met_all [] (trees ∷ certs) all = absurd all
  met_all (name ∷ names) [] all = absurd all
  met_all (name ∷ names) (trees ∷ certs) all =
      (met_if (statement_of name) (all_unsolved (systems_of p (statement_of name)) trees all.0), met_all names certs all.1)

  pub meets : IsCertified p → MeetsObligations p
  meets (certs, all) =
      subst (λ statements. All (IsMet p) statements) (sym (names_are_statements p)) (All-from_recursion (IsMet p) (map statement_of ob_names) (met_all ob_names certs all))

pub answers_are_true : AnswersAreTrue
answers_are_true p is name answer = told p is (statement_of name) answer

pub statements_are_true : StatementsAreTrue
statements_are_true p is s answer = told p is s answer

pub certified_meet : CertifiedMeet
certified_meet p is = meets p is
