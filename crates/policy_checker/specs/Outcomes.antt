-- Answers without their reasons, and when they are true.
use Rattle.std.specs.Prelude.{List}
use Rattle.std.specs.List.{Contains}
use Rattle.linear_form.specs.System.{LinearSystem}
use Rattle.linear_solver.specs.Elimination.{IsOpen}
use Rattle.obligations.specs.declared.names.ObName.{ObName}
use Rattle.obligations.specs.Names.{statement_of}
use Rattle.obligations.specs.Systems.{systems_of}
use Rattle.policy_eval.specs.Obligations.{IsMet, Statement}
use Rattle.policy_tree.specs.Meaning.{Meaning}
use Rattle.policy_checker.specs.declared.answer.ObAnswer.{ObAnswer}
use Rattle.policy_checker.specs.declared.answer.ObAnswer.TheVariants as answer
use Rattle.policy_checker.specs.declared.answer.Outcome.{Outcome}
use Rattle.policy_checker.specs.declared.answer.Outcome.TheVariants as outcome

-- the answer without its reason
abbrev pub outcome_of : ObAnswer → Outcome
outcome_of (answer.Holds certs) = outcome.Holds
outcome_of (answer.Fails point) = outcome.Fails
outcome_of (answer.Undecided points) = outcome.Undecided

-- a system that elimination may leave open
abbrev pub HasOpen : List LinearSystem → Type 0
HasOpen systems = (system : LinearSystem) × Contains systems system × IsOpen system.bounds system.rows

-- That is true of the statement.
abbrev pub IsTrueOf : Meaning → Statement → Outcome → Type 0
IsTrueOf p s outcome.Holds = IsMet p s
IsTrueOf p s outcome.Fails = IsMet p s → ⊥
IsTrueOf p s outcome.Undecided = HasOpen (systems_of p s)

-- That is true of the obligation with this name.
abbrev pub IsTold : Meaning → ObName → Outcome → Type 0
IsTold p name told = IsTrueOf p (statement_of name) told
