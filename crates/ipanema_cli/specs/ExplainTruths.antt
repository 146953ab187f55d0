-- What `explain` says is true.
use Rattle.std.specs.Prelude.{◌≡◌, ◌≢◌, ℕ, List, [], ◌∷◌, Option}
use Rattle.sched_io.specs.Told.{Told}
use Rattle.sched_io.specs.Written.{Adds}
use Rattle.policy_tree.specs.Meaning.{Meaning}
use Rattle.obligations.specs.declared.names.ObName.{ObName}
use Rattle.obligations.specs.DifferencePolicies.{ComparesDifferences}
use Rattle.obligations.specs.Names.{statement_of}
use Rattle.obligations.specs.Systems.{systems_of}
use Rattle.policy_checker.specs.Laws.{FailsAt}
use Rattle.policy_checker.specs.Outcomes.{HasOpen, outcome_of}
use Rattle.policy_checker.specs.declared.answer.ObAnswer.{ObAnswer}
use Rattle.policy_checker.specs.declared.answer.ObAnswer.TheVariants as answer
use Rattle.policy_answers.specs.Points.{explain_line}
use Rattle.ipanema_cli.specs.Causes.{OneOf}
use Rattle.ipanema_cli.specs.Status.{code_of, outcome_status}
use Rattle.ipanema_cli.specs.CheckTruths.{IsTrueOfOne, MaySpell, Refuses, Spells, TellsFault}

-- Where the answer is that the obligation fails, it fails at the answer's point.
abbrev pub ShowsFailure : Meaning → ObName → ObAnswer → Type 0
ShowsFailure p name (answer.Holds certs) = Unit {0}
ShowsFailure p name (answer.Fails point) = FailsAt p (statement_of name) point.vals
ShowsFailure p name (answer.Undecided points) = Unit {0}

-- The line that is written answers for an obligation of a policy, which the policy's file may spell.
pub record ExplainsFor (policy : Told) (name : ObName) (before after : Option (List ℕ)) (code : ℕ) : Type 0 where
  pub p : Meaning
  pub answer : ObAnswer
  pub spelled : MaySpell policy p
  pub told : IsTrueOfOne p name answer
  pub shows : ShowsFailure p name answer
  -- the variables of a point stand there by their names, in their order, each with its value
  pub written : Adds (explain_line p name answer) before after
  -- the status is that of the answer
  pub status : code ≡ code_of (outcome_status (outcome_of answer))

-- What `explain` says of an obligation of the policy in a file of which this is told is true.
pub record ExplainsTruly (policy : Told) (name : ObName) (before after : Option (List ℕ)) (code : ℕ) : Type 0 where
  pub line : OneOf (0 ∷ 1 ∷ 3 ∷ []) code → ExplainsFor policy name before after code
  -- every policy gets such an answer, if the outside lets it be
  pub answers : (p : Meaning) → Spells policy p → OneOf (0 ∷ 1 ∷ 3 ∷ 4 ∷ 5 ∷ 6 ∷ []) code
  -- and none is that nothing is known, where no system of the obligation is open
  pub decides : (p : Meaning) → Spells policy p → (HasOpen (systems_of p (statement_of name)) → ⊥) → code ≢ 3
  -- nor of a policy that counts threads and compares constants with variables and differences of two alone
  pub differences : (p : Meaning) → Spells policy p → ComparesDifferences p → code ≢ 3
  pub refuses : Refuses policy code
  pub bad_text : code ≡ 2 → TellsFault policy before after
