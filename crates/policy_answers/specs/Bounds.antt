-- Which answer of `bound` a policy's text may get, and how it is written.
use Rattle.std.specs.Prelude.{◌≡◌, ℕ, Bool, true, false, cond, List, [], ◌∷◌, ◌++◌, codes, None}
use Rattle.sched_base.specs.declared.limits.TheConstants.{CHECK_BUDGET}
use Rattle.policy_tree.specs.Meaning.{Meaning}
use Rattle.policy_eval.specs.Obligations.{Statement, batch_leaves_last, filter_leaves_last}
use Rattle.policy_reader.specs.Spelled.{SpellsPolicy}
use Rattle.obligations.specs.Counts.{first_crowded}
use Rattle.obligations.specs.Names.{ob_names}
use Rattle.obligations.specs.Systems.{systems_of, variables_of}
use Rattle.policy_checker.specs.Answers.{IsAnswer}
use Rattle.policy_checker.specs.Certified.{IsCertified}
use Rattle.policy_checker.specs.Outcomes.{outcome_of}
use Rattle.policy_checker.specs.declared.answer.ObAnswer.{ObAnswer}
use Rattle.policy_checker.specs.declared.answer.ObAnswer.TheVariants as answer
use Rattle.policy_checker.specs.declared.answer.Outcome.{Outcome}
use Rattle.policy_checker.specs.declared.answer.Outcome.TheVariants as outcome
use Rattle.policy_checker.specs.declared.verdict.Verdict.TheVariants as verdict
use Rattle.policy_answers.specs.Checks.{IsCheckOf}
use Rattle.policy_answers.specs.Lines.{check_lines, outcome_word}
use Rattle.policy_answers.specs.Points.{values_text}
use Rattle.policy_answers.specs.declared.answer.CheckAnswer.{CheckAnswer}
use Rattle.policy_answers.specs.declared.answer.CheckAnswer.TheVariants as check
use Rattle.policy_answers.specs.declared.bounding.BoundAnswer.{BoundAnswer}
use Rattle.policy_answers.specs.declared.bounding.BoundAnswer.TheVariants as bound
use Rattle.policy_answers.specs.declared.bounding.Bounding.{Bounding}

-- whether what is told is the answer on the filter: where it fails, and where it isn't known and a batch doesn't fail
abbrev pub is_of_filter : (filter batch : Outcome) → Bool
is_of_filter outcome.Fails batch = true
is_of_filter outcome.Holds batch = false
is_of_filter outcome.Undecided outcome.Fails = false
is_of_filter outcome.Undecided outcome.Holds = true
is_of_filter outcome.Undecided outcome.Undecided = true

-- what is told, and of which statement
abbrev pub told_of : (filter batch : ObAnswer) → Statement × ObAnswer
told_of filter batch =
    cond (is_of_filter (outcome_of filter) (outcome_of batch)) (filter_leaves_last, filter) (batch_leaves_last, batch)

-- the line on the last waiting thread, for an answer whose point has these variables
abbrev pub last_line : Meaning → List ℕ → ObAnswer → List ℕ
last_line p vars (answer.Holds certs) = codes "last-waiting" ++ outcome_word outcome.Holds
last_line p vars (answer.Fails point) =
    codes "last-waiting" ++ (codes " fails" ++ (values_text p vars point.vals ++ codes "\n"))
last_line p vars (answer.Undecided points) = codes "last-waiting" ++ outcome_word outcome.Undecided

-- both statements have such answers, and one of these is told
pub record IsToldOfLast (p : Meaning) (bounding : Bounding) : Type 0 where
  pub filter : ObAnswer
  pub batch : ObAnswer
  pub of_filter : IsAnswer CHECK_BUDGET (systems_of p filter_leaves_last) filter
  pub of_batch : IsAnswer CHECK_BUDGET (systems_of p batch_leaves_last) batch
  pub told : bounding.outcome ≡ outcome_of (told_of filter batch).1
  pub line : bounding.line.items ≡ last_line p (variables_of p (told_of filter batch).0) (told_of filter batch).1

-- the answer of `check` isn't that the policy is accepted
abbrev pub IsNoAcceptance : CheckAnswer → Type 0
IsNoAcceptance (check.Judged (verdict.Accepted policy)) = ⊥
IsNoAcceptance (check.Judged (verdict.Refused answers policy)) = Unit {0}
IsNoAcceptance (check.Judged (verdict.Undecided answers policy)) = Unit {0}
IsNoAcceptance (check.Unjudged why) = Unit {0}

-- the text spells a policy that is accepted, no obligation of which has too many cases, and that is told of it
pub record IsBounded (text : List ℕ) (bounding : Bounding) : Type 0 where
  pub p : Meaning
  pub spells : SpellsPolicy text p
  pub few : first_crowded p ob_names ≡ None
  pub certified : IsCertified p
  pub told : IsToldOfLast p bounding

-- that is the answer of `bound`
abbrev pub IsBoundOf : List ℕ → BoundAnswer → Type 0
IsBoundOf text (bound.Bounded bounding) = IsBounded text bounding
IsBoundOf text (bound.Unbounded checked) = IsCheckOf text checked × IsNoAcceptance checked

-- the line on the bound
abbrev pub bound_line : Outcome → List ℕ
bound_line outcome.Holds = codes "bound idle-cores\n"
bound_line outcome.Fails = codes "bound half-spread\n"
bound_line outcome.Undecided = codes "bound half-spread\n"

-- the lines of `bound`
abbrev pub bound_lines : BoundAnswer → List (List ℕ)
bound_lines (bound.Bounded bounding) = bounding.line.items ∷ bound_line bounding.outcome ∷ []
bound_lines (bound.Unbounded checked) = check_lines checked
