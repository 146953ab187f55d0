-- Laws: what certificates, answers and points say of a policy.
use Rattle.std.specs.Prelude.{◌≡◌, ◌⊎◌, ℕ, ℤ, IsFalse, IsTrue, List, map}
use Rattle.sched_base.specs.declared.limits.TheConstants.{CHECK_BUDGET}
use Rattle.policy_tree.specs.Meaning.{Meaning}
use Rattle.policy_eval.specs.Obligations.{IsMet, MeetsHandlerObligations, MeetsObligations, Statement}
use Rattle.policy_eval.specs.Ranges.{AreIn}
use Rattle.policy_eval.specs.Resolved.{IsResolved}
use Rattle.policy_eval.specs.Values.{Assignment, Holds, variable_of}
use Rattle.obligations.specs.declared.names.ObName.{ObName}
use Rattle.obligations.specs.DifferencePolicies.{ComparesDifferences}
use Rattle.obligations.specs.Names.{statement_of}
use Rattle.obligations.specs.Refutations.{refutation}
use Rattle.obligations.specs.Systems.{systems_of, variable_ranges, variables_of}
use Rattle.policy_checker.specs.Answers.{IsAnswer, IsFirstSolved}
use Rattle.policy_checker.specs.Certified.{IsCertified}
use Rattle.policy_checker.specs.Outcomes.{HasOpen, IsTold, IsTrueOf, outcome_of}
use Rattle.policy_checker.specs.Playable.{HasCertifiedHandlers, is_of_handler, is_playable}
use Rattle.policy_checker.specs.Verdicts.{IsDecided, IsVerdict, is_left}
use Rattle.policy_checker.specs.declared.answer.ObAnswer.{ObAnswer}
use Rattle.policy_checker.specs.declared.verdict.Verdict.{Verdict}

-- A certified policy meets all its statements.
abbrev pub CertifiedMeet : Type 0
CertifiedMeet = (p : Meaning) → IsResolved p → IsCertified p → MeetsObligations p

-- What an answer tells is true, under the budget of the program.
abbrev pub AnswersAreTrue : Type 0
AnswersAreTrue = (p : Meaning) → IsResolved p → (name : ObName) (answer : ObAnswer)
    → IsAnswer CHECK_BUDGET (systems_of p (statement_of name)) answer → IsTold p name (outcome_of answer)

-- So it is of each statement that may be asked of a policy.
abbrev pub StatementsAreTrue : Type 0
StatementsAreTrue = (p : Meaning) → IsResolved p → (s : Statement) (answer : ObAnswer)
    → IsAnswer CHECK_BUDGET (systems_of p s) answer → IsTrueOf p s (outcome_of answer)

-- Some values of all variables, each in its range, refute the statement, and the point has those of the statement's
-- variables, in the order of their numbers.
pub record FailsAt (p : Meaning) (s : Statement) (point : List ℤ) : Type 0 where
  pub values : Assignment
  pub in_range : AreIn (variable_ranges p) values
  pub refute : Holds values (refutation p s)
  pub shown : map (variable_of values) (variables_of p s) ≡ point

-- The statement fails at the point that an answer gives.
abbrev pub PointsRefute : Type 0
PointsRefute = (p : Meaning) → IsResolved p → (s : Statement) (budget : ℕ) (point : List ℤ)
    → IsFirstSolved budget (systems_of p s) point → FailsAt p s point

-- A policy whose comparisons are differences is decided, whatever the budget.
pub record DifferencesAreDecided : Type 0 where
  -- no answer to an obligation is that nothing is known
  pub answers : (p : Meaning) → ComparesDifferences p → (name : ObName) (budget : ℕ) (answer : ObAnswer)
      → IsAnswer budget (systems_of p (statement_of name)) answer → IsFalse (is_left answer)
  -- and no verdict is
  pub verdicts : (p : Meaning) → ComparesDifferences p → (budget : ℕ) (verdict : Verdict)
      → IsVerdict p budget verdict → IsDecided verdict
  -- bounded elimination leaves no system of it open
  pub none_open : (p : Meaning) → ComparesDifferences p → (name : ObName)
      → HasOpen (systems_of p (statement_of name)) → ⊥

-- Some handler obligation isn't met, or has a system that elimination may leave open.
pub record HasUncertainHandler (p : Meaning) : Type 0 where
  pub name : ObName
  pub of_handler : IsTrue (is_of_handler name)
  pub uncertain : (IsMet p (statement_of name) → ⊥) ⊎ HasOpen (systems_of p (statement_of name))

-- What it means that a policy can be played.
pub record PlayableLaw : Type 0 where
  -- where the handlers are certified, the policy meets its handler obligations
  pub meets : (p : Meaning) → IsResolved p → HasCertifiedHandlers p → MeetsHandlerObligations p
  -- they are where each obligation is
  pub accepted : (p : Meaning) → IsCertified p → HasCertifiedHandlers p
  -- no verdict under the budget of the program keeps a policy from play without a cause
  pub others : (p : Meaning) → IsResolved p → (verdict : Verdict) → IsVerdict p CHECK_BUDGET verdict
      → IsFalse (is_playable verdict) → HasUncertainHandler p
