-- What a verdict is worth.
use Rattle.std.specs.Prelude.{◌≡◌, ℕ, Bool, true, false, List, map}
use Rattle.std.specs.List.{AllByRecursion, list_any}
use Rattle.policy_tree.specs.declared.typed.Policy.{Policy}
use Rattle.policy_tree.specs.Meaning.{Meaning}
use Rattle.obligations.specs.declared.names.ObName.{ObName}
use Rattle.obligations.specs.declared.obligation.Obligation.{Obligation}
use Rattle.obligations.specs.Names.{ob_names, statement_of}
use Rattle.obligations.specs.Systems.{systems_of}
use Rattle.policy_checker.specs.Answers.{HasFewLooks, IsAnswer, MayBeDecided}
use Rattle.policy_checker.specs.Certified.{IsCertified}
use Rattle.policy_checker.specs.declared.answer.Answered.{Answered}
use Rattle.policy_checker.specs.declared.answer.ObAnswer.{ObAnswer}
use Rattle.policy_checker.specs.declared.answer.ObAnswer.TheVariants as answer
use Rattle.policy_checker.specs.declared.verdict.Verdict.{Verdict}
use Rattle.policy_checker.specs.declared.verdict.Verdict.TheVariants as verdict
use Rattle.policy_checker.specs.declared.verdict.CheckFault.{CheckFault}
use Rattle.policy_checker.specs.declared.verdict.CheckFault.TheVariants as fault

-- whether the answer is that the obligation fails
abbrev pub is_failure : ObAnswer → Bool
is_failure (answer.Holds certs) = false
is_failure (answer.Fails point) = true
is_failure (answer.Undecided points) = false

-- whether the answer is that nothing is known
abbrev pub is_left : ObAnswer → Bool
is_left (answer.Holds certs) = false
is_left (answer.Fails point) = false
is_left (answer.Undecided points) = true

-- whether some obligation fails
abbrev pub some_fails : List Answered → Bool
some_fails answers = list_any (λ (answered : Answered). is_failure answered.answer) answers

-- whether of some obligation nothing is known
abbrev pub some_is_left : List Answered → Bool
some_is_left answers = list_any (λ (answered : Answered). is_left answered.answer) answers

-- that is an answer to the obligation with its name
abbrev pub Answers : Meaning → ℕ → Answered → Type 0
Answers p budget answered = IsAnswer budget (systems_of p (statement_of answered.name)) answered.answer

-- the same of an obligation with its systems
pub record IsAnswerTo (budget : ℕ) (obligation : Obligation) (answered : Answered) : Type 0 where
  pub name : answered.name ≡ obligation.name
  pub answer : IsAnswer budget obligation.systems answered.answer
  pub looks : HasFewLooks budget obligation.systems answered.looks

-- so few boxes were looked at for it
abbrev pub TookFewLooks : Meaning → ℕ → Answered → Type 0
TookFewLooks p budget answered = HasFewLooks budget (systems_of p (statement_of answered.name)) answered.looks

-- the answers to all obligations, in their order
pub record AreAnswers (p : Meaning) (budget : ℕ) (answers : List Answered) : Type 0 where
  pub names : map (λ (answered : Answered). answered.name) answers ≡ ob_names
  pub each : AllByRecursion (Answers p budget) answers
  pub looks : AllByRecursion (TookFewLooks p budget) answers

-- each system of each of these obligations may be decided under the budget
abbrev pub MayAllBeDecided : Meaning → ℕ → List ObName → Type 0
MayAllBeDecided p budget names =
    AllByRecursion (λ (name : ObName). AllByRecursion (MayBeDecided budget) (systems_of p (statement_of name))) names

-- each obligation has its certificates, and could be decided under the budget
pub record IsCertifiedUnder (p : Meaning) (budget : ℕ) : Type 0 where
  pub certified : IsCertified p
  pub decided : MayAllBeDecided p budget ob_names

-- some obligation fails
pub record IsRefused (p : Meaning) (budget : ℕ) (answers : List Answered) : Type 0 where
  pub answers_are : AreAnswers p budget answers
  pub fails : some_fails answers ≡ true

-- none fails, and of some it isn't known whether it holds
pub record IsUndecided (p : Meaning) (budget : ℕ) (answers : List Answered) : Type 0 where
  pub answers_are : AreAnswers p budget answers
  pub none_fails : some_fails answers ≡ false
  pub left : some_is_left answers ≡ true

-- That is a verdict on the policy.
abbrev pub IsVerdict : Meaning → ℕ → Verdict → Type 0
IsVerdict p budget (verdict.Accepted policy) = IsCertifiedUnder p budget
IsVerdict p budget (verdict.Refused answers policy) = IsRefused p budget answers
IsVerdict p budget (verdict.Undecided answers policy) = IsUndecided p budget answers

-- the verdict is that the policy meets its obligations, or that it doesn't
abbrev pub IsDecided : Verdict → Type 0
IsDecided (verdict.Accepted policy) = Unit {0}
IsDecided (verdict.Refused answers policy) = Unit {0}
IsDecided (verdict.Undecided answers policy) = ⊥

-- the policy that a verdict keeps
abbrev pub policy_of : Verdict → Policy
policy_of (verdict.Accepted policy) = policy
policy_of (verdict.Refused answers policy) = policy
policy_of (verdict.Undecided answers policy) = policy

-- the policy that comes back with a fault
abbrev pub returned_by : CheckFault → Policy
returned_by (fault.Cases name count policy) = policy
returned_by (fault.Memory policy) = policy
