-- Answers to what may be asked of a policy beside its obligations.
use Rattle.std.specs.Prelude.{◌≡◌, ℕ}
use Rattle.policy_tree.specs.Meaning.{Meaning}
use Rattle.policy_eval.specs.Obligations.{Statement}
use Rattle.obligations.specs.Systems.{systems_of, variables_of}
use Rattle.policy_checker.specs.Answers.{HasFewLooks, IsAnswer}
use Rattle.policy_checker.specs.declared.one.One.{One}

-- That is an answer to the statement, with its variables.
pub record IsOneOf (p : Meaning) (budget : ℕ) (s : Statement) (one : One) : Type 0 where
  pub vars : one.vars ≡ variables_of p s
  pub answer : IsAnswer budget (systems_of p s) one.answer
  pub looks : HasFewLooks budget (systems_of p s) one.looks
