-- How an answer is written, line by line.
use Rattle.std.specs.Prelude.{ℕ, Bool, true, List, [], ◌∷◌, ◌++◌, codes, filter, is_some, map}
use Rattle.policy_tree.specs.Meaning.{Meaning, meaning_of}
use Rattle.obligations.specs.declared.names.ObName.{ObName}
use Rattle.obligations.specs.declared.names.ObName.TheVariants as name
use Rattle.obligations.specs.Names.{ob_names, ob_text}
use Rattle.policy_reader.specs.Lines.{fault_line}
use Rattle.policy_checker.specs.Outcomes.{outcome_of}
use Rattle.policy_checker.specs.declared.answer.Answered.{Answered}
use Rattle.policy_checker.specs.declared.answer.Outcome.{Outcome}
use Rattle.policy_checker.specs.declared.answer.Outcome.TheVariants as outcome
use Rattle.policy_checker.specs.declared.verdict.Verdict.{Verdict}
use Rattle.policy_checker.specs.declared.verdict.Verdict.TheVariants as verdict
use Rattle.policy_answers.specs.declared.answer.CheckAnswer.{CheckAnswer}
use Rattle.policy_answers.specs.declared.answer.CheckAnswer.TheVariants as check
use Rattle.policy_answers.specs.declared.explaining.ExplainAnswer.{ExplainAnswer}
use Rattle.policy_answers.specs.declared.explaining.ExplainAnswer.TheVariants as explain
use Rattle.policy_answers.specs.declared.reading.Refusal.{Refusal}
use Rattle.policy_answers.specs.declared.reading.Refusal.TheVariants as refusal

-- the word of an answer
abbrev pub outcome_word : Outcome → List ℕ
outcome_word outcome.Holds = codes " holds\n"
outcome_word outcome.Fails = codes " fails\n"
outcome_word outcome.Undecided = codes " undecided\n"

-- the line of an obligation
abbrev pub line_of : ObName → Outcome → List ℕ
line_of name told = ob_text name ++ outcome_word told

-- the line of an obligation that holds
abbrev pub line_held : ObName → List ℕ
line_held name = line_of name outcome.Holds

-- the line of an obligation with its answer
abbrev pub line_answered : Answered → List ℕ
line_answered answered = line_of answered.name (outcome_of answered.answer)

-- whether the obligation has a line: that of further moves only where the policy has a batch
abbrev pub is_shown : Meaning → ObName → Bool
is_shown p name.B1 = true
is_shown p name.B2 = true
is_shown p name.B3 = true
is_shown p name.B4 = is_some p.batch
is_shown p name.H1Enqueue = true
is_shown p name.H2Enqueue = true
is_shown p name.H1Tick = true
is_shown p name.H2Tick = true
is_shown p name.H1Yield = true
is_shown p name.H2Yield = true
is_shown p name.H1Block = true
is_shown p name.H2Block = true

-- the obligations that have a line, in the order of the output
abbrev pub shown_names : Meaning → List ObName
shown_names p = filter (is_shown p) ob_names

-- the answers to these
abbrev pub shown_answers : Meaning → List Answered → List Answered
shown_answers p answers = filter (λ (answered : Answered). is_shown p answered.name) answers

-- one line for each obligation that has one, and one for the verdict
abbrev pub verdict_lines : Verdict → List (List ℕ)
verdict_lines (verdict.Accepted policy) = map line_held (shown_names (meaning_of policy)) ++ codes "accepted\n" ∷ []
verdict_lines (verdict.Refused answers policy) =
    map line_answered (shown_answers (meaning_of policy) answers) ++ codes "refused\n" ∷ []
verdict_lines (verdict.Undecided answers policy) =
    map line_answered (shown_answers (meaning_of policy) answers) ++ codes "undecided\n" ∷ []

-- the line of a text that isn't judged
abbrev pub refusal_line : Refusal → List ℕ
refusal_line (refusal.Faulty fault) = fault_line fault
refusal_line (refusal.Crowded name) = codes "too-many-cases " ++ (ob_text name ++ codes "\n")

-- the lines of `check`
abbrev pub check_lines : CheckAnswer → List (List ℕ)
check_lines (check.Judged verdict) = verdict_lines verdict
check_lines (check.Unjudged why) = refusal_line why ∷ []

-- the line of `explain`
abbrev pub explain_lines : ExplainAnswer → List (List ℕ)
explain_lines (explain.Explained explanation) = explanation.line.items ∷ []
explain_lines (explain.Unjudged why) = refusal_line why ∷ []
