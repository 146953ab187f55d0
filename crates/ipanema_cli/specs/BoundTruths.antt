-- What `bound` says is true.
use Rattle.std.specs.Prelude.{◌≡◌, ◌≢◌, ◌⊎◌, ℕ, List, [], ◌∷◌, Option}
use Rattle.sched_io.specs.Puts.{joined}
use Rattle.sched_io.specs.Told.{Told}
use Rattle.sched_io.specs.Written.{Adds}
use Rattle.policy_tree.specs.Meaning.{Meaning}
use Rattle.policy_eval.specs.LastWaiting.{LeavesLastToIdle}
use Rattle.policy_eval.specs.Obligations.{MeetsObligations, Statement, batch_leaves_last, filter_leaves_last}
use Rattle.obligations.specs.DifferencePolicies.{ComparesDifferences}
use Rattle.obligations.specs.Systems.{systems_of}
use Rattle.policy_checker.specs.Laws.{FailsAt}
use Rattle.policy_checker.specs.Outcomes.{HasOpen}
use Rattle.policy_checker.specs.declared.answer.ObAnswer.{ObAnswer}
use Rattle.policy_checker.specs.declared.answer.ObAnswer.TheVariants as answer
use Rattle.policy_checker.specs.declared.answer.Outcome.{Outcome}
use Rattle.policy_checker.specs.declared.answer.Outcome.TheVariants as outcome
use Rattle.policy_answers.specs.Bounds.{IsToldOfLast, bound_lines, told_of}
use Rattle.policy_answers.specs.declared.bounding.BoundAnswer.TheVariants.{Bounded}
use Rattle.policy_answers.specs.declared.bounding.Bounding.{Bounding}
use Rattle.ipanema_cli.specs.Causes.{OneOf}
use Rattle.ipanema_cli.specs.CheckTruths.{AcceptedPolicy, AnswersFor, PaysForWaste, Refuses, SomeIsOpen, Spells}
use Rattle.ipanema_cli.specs.CheckTruths.{TellsFault}
use Rattle.ipanema_cli.specs.Status.{code_of, outcome_status}

-- Bounded elimination leaves a system of one of the two statements on the last waiting thread open.
abbrev pub LastIsOpen : Meaning → Type 0
LastIsOpen p = HasOpen (systems_of p filter_leaves_last) ⊎ HasOpen (systems_of p batch_leaves_last)

-- That is true of the last waiting thread.
abbrev pub IsTrueOfLast : Meaning → Outcome → Type 0
IsTrueOfLast p outcome.Holds = LeavesLastToIdle p
IsTrueOfLast p outcome.Fails = LeavesLastToIdle p → ⊥
IsTrueOfLast p outcome.Undecided = LastIsOpen p

-- Where the answer is that the statement fails, it fails at the answer's point.
abbrev pub ShowsTaking : Meaning → Statement → ObAnswer → Type 0
ShowsTaking p s (answer.Holds certs) = Unit {0}
ShowsTaking p s (answer.Fails point) = FailsAt p s point.vals
ShowsTaking p s (answer.Undecided points) = Unit {0}

-- The lines that are written answer for an accepted policy.
pub record BoundsFor (policy : Told) (before after : Option (List ℕ)) (code : ℕ) : Type 0 where
  pub p : Meaning
  pub bounding : Bounding
  pub accepted : AcceptedPolicy policy p
  -- behind `holds` is a right certificate for each system of both statements, behind `fails` a point that solves one
  pub reason : IsToldOfLast p bounding
  pub word : IsTrueOfLast p bounding.outcome
  -- at the numbers of the line the statement fails
  pub shows : ShowsTaking p (told_of reason.filter reason.batch).0 (told_of reason.filter reason.batch).1
  pub written : Adds (joined (bound_lines (Bounded bounding))) before after
  pub status : code ≡ code_of (outcome_status bounding.outcome)

-- What a policy has that leaves the last waiting thread to idle cores.
pub record BoundedPolicy (policy : Told) (p : Meaning) : Type 0 where
  pub accepted : AcceptedPolicy policy p
  pub leaves_last : LeavesLastToIdle p
  -- and so each wasted round is paid for by an idle core that it fills
  pub pays : PaysForWaste p

-- When each status of `bound` must come, if the outside lets it be.
pub record MustBound (policy : Told) (code : ℕ) : Type 0 where
  -- a policy that meets its obligations and leaves the last waiting thread to idle cores is found to do so, or left
  -- undecided
  pub leaves : (p : Meaning) → Spells policy p → MeetsObligations p → LeavesLastToIdle p →
      OneOf (0 ∷ 3 ∷ 4 ∷ 5 ∷ 6 ∷ []) code
  -- and another one is found not to, or left undecided
  pub takes : (p : Meaning) → Spells policy p → (MeetsObligations p → LeavesLastToIdle p → ⊥) →
      OneOf (1 ∷ 3 ∷ 4 ∷ 5 ∷ 6 ∷ []) code
  -- none is left undecided of which no system is open
  pub decides : (p : Meaning) → Spells policy p → (SomeIsOpen p → ⊥) → (LastIsOpen p → ⊥) → code ≢ 3
  -- nor one that counts threads and compares constants with variables and differences of two alone
  pub differences : (p : Meaning) → Spells policy p → ComparesDifferences p → code ≢ 3

-- What `bound` says of the policy in a file of which this is told is true.
pub record BoundsTruly (policy : Told) (before after : Option (List ℕ)) (code : ℕ) : Type 0 where
  pub bounded : code ≡ 0 → (p : Meaning) × BoundedPolicy policy p
  -- a policy that isn't accepted gets the lines of `check`, and under 0 none does
  pub lines : OneOf (0 ∷ 1 ∷ 3 ∷ []) code →
      BoundsFor policy before after code ⊎ ((code ≢ 0) × AnswersFor policy before after code)
  pub must : MustBound policy code
  pub refuses : Refuses policy code
  pub bad_text : code ≡ 2 → TellsFault policy before after
