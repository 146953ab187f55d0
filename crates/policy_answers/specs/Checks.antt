-- Which answers a policy's text may get.
use Rattle.std.specs.Prelude.{◌≡◌, ℕ, List, Some, None}
use Rattle.sched_base.specs.declared.limits.TheConstants.{CHECK_BUDGET}
use Rattle.policy_tree.specs.Meaning.{Meaning, meaning_of}
use Rattle.policy_reader.specs.Faults.{HasFault}
use Rattle.policy_reader.specs.Spelled.{SpellsPolicy}
use Rattle.obligations.specs.declared.names.ObName.{ObName}
use Rattle.obligations.specs.Counts.{first_crowded}
use Rattle.obligations.specs.Names.{ob_names, statement_of}
use Rattle.obligations.specs.Systems.{systems_of}
use Rattle.policy_checker.specs.Answers.{IsAnswer}
use Rattle.policy_checker.specs.Outcomes.{outcome_of}
use Rattle.policy_checker.specs.Verdicts.{IsVerdict, policy_of}
use Rattle.policy_checker.specs.declared.answer.ObAnswer.{ObAnswer}
use Rattle.policy_checker.specs.declared.verdict.Verdict.{Verdict}
use Rattle.policy_answers.specs.Points.{explain_line}
use Rattle.policy_answers.specs.declared.answer.CheckAnswer.{CheckAnswer}
use Rattle.policy_answers.specs.declared.answer.CheckAnswer.TheVariants as check
use Rattle.policy_answers.specs.declared.explaining.ExplainAnswer.{ExplainAnswer}
use Rattle.policy_answers.specs.declared.explaining.ExplainAnswer.TheVariants as explain
use Rattle.policy_answers.specs.declared.explaining.Explanation.{Explanation}
use Rattle.policy_answers.specs.declared.reading.Refusal.{Refusal}
use Rattle.policy_answers.specs.declared.reading.Refusal.TheVariants as refusal

-- the text spells a policy of which that obligation is the first with too many cases
pub record IsCrowded (text : List ℕ) (name : ObName) : Type 0 where
  pub p : Meaning
  pub count : ℕ
  pub spells : SpellsPolicy text p
  pub first : first_crowded p ob_names ≡ Some (name, count)

-- that is why the text isn't judged
abbrev pub IsRefusal : List ℕ → Refusal → Type 0
IsRefusal text (refusal.Faulty fault) = HasFault text fault
IsRefusal text (refusal.Crowded name) = IsCrowded text name

-- the text spells the policy that was judged, no obligation of which has too many cases, and gets its verdict
pub record IsJudged (text : List ℕ) (p : Meaning) (verdict : Verdict) : Type 0 where
  pub spells : SpellsPolicy text p
  pub few : first_crowded p ob_names ≡ None
  pub is : IsVerdict p CHECK_BUDGET verdict

-- that is the answer of `check`
abbrev pub IsCheckOf : List ℕ → CheckAnswer → Type 0
IsCheckOf text (check.Judged verdict) = IsJudged text (meaning_of (policy_of verdict)) verdict
IsCheckOf text (check.Unjudged why) = IsRefusal text why

-- the text spells a policy, no obligation of which has too many cases, and the one of that name has such an answer
pub record IsExplained (text : List ℕ) (name : ObName) (explanation : Explanation) : Type 0 where
  pub p : Meaning
  pub answer : ObAnswer
  pub spells : SpellsPolicy text p
  pub few : first_crowded p ob_names ≡ None
  pub is : IsAnswer CHECK_BUDGET (systems_of p (statement_of name)) answer
  pub told : explanation.outcome ≡ outcome_of answer
  pub line : explanation.line.items ≡ explain_line p name answer

-- that is the answer of `explain`
abbrev pub IsExplainOf : List ℕ → ObName → ExplainAnswer → Type 0
IsExplainOf text name (explain.Explained explanation) = IsExplained text name explanation
IsExplainOf text name (explain.Unjudged why) = IsRefusal text why
