-- What is written of a history that was judged.
use Rattle.std.specs.Prelude.{ℕ, List, [], ◌∷◌, codes}
use Rattle.sched_history.specs.Ranges.{CanBePrinted}
use Rattle.sched_history.specs.Spelling.{lines_of_history}
use Rattle.history_reasons.specs.declared.explaining.Explanation.{Explanation}
use Rattle.history_reasons.specs.declared.explaining.Explanation.TheVariants as explained
use Rattle.history_reasons.specs.Lines.{CanBeTold, numbered_line, why_lines}
use Rattle.sched_report.specs.Lines.{report_lines}
use Rattle.trace_play.specs.Told.{fault_line}
use Rattle.history_replay.specs.declared.answer.HistoryAnswer.{HistoryAnswer}
use Rattle.history_replay.specs.declared.answer.HistoryAnswer.TheVariants as answer
use Rattle.history_replay.specs.declared.refusal.HistoryRefusal.{HistoryRefusal}
use Rattle.history_replay.specs.declared.refusal.HistoryRefusal.TheVariants as refusal

-- the line of a refusal
abbrev pub refusal_line : HistoryRefusal → List ℕ
refusal_line (refusal.Trace fault) = fault_line fault
refusal_line (refusal.BadLine line) = numbered_line (codes "history ") line (codes " bad-line\n")
refusal_line (refusal.Illegal position) = numbered_line (codes "illegal ") position (codes "\n")
refusal_line (refusal.Short count) = numbered_line (codes "short ") count (codes "\n")

-- the line of a whole history of so many entries
abbrev pub whole_line : ℕ → List ℕ
whole_line count = numbered_line (codes "whole ") count (codes "\n")

-- the first line of an explanation, as replay writes it
abbrev pub judgement_line : Explanation → List ℕ
judgement_line (explained.Whole count) = whole_line count
judgement_line (explained.Short count coming) = refusal_line (refusal.Short count)
judgement_line (explained.Illegal at why coming) = refusal_line (refusal.Illegal at)

-- the lines of an explanation
abbrev pub explanation_lines : Explanation → List (List ℕ)
explanation_lines explanation = judgement_line explanation ∷ why_lines explanation

-- the lines of an answer
abbrev pub lines_of : HistoryAnswer → List (List ℕ)
lines_of (answer.Whole count) = whole_line count ∷ []
lines_of (answer.Reported report) = report_lines report
lines_of (answer.Migrated judged) = lines_of_history judged.plan.cores judged.history
lines_of (answer.Explained explanation) = explanation_lines explanation
lines_of (answer.Refused why) = refusal_line why ∷ []

-- the answer can be written: a history that is migrated has a text of the second format, and each entry that may come
-- has a line
abbrev pub IsShown : HistoryAnswer → Type 0
IsShown (answer.Whole count) = Unit {0}
IsShown (answer.Reported report) = Unit {0}
IsShown (answer.Migrated judged) = CanBePrinted judged.plan.cores judged.history
IsShown (answer.Explained explanation) = CanBeTold explanation
IsShown (answer.Refused why) = Unit {0}
