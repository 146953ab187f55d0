-- How an explanation is written behind its first line: the rule that is broken, and the entries that may come.
use Rattle.std.specs.Prelude.{ℕ, List, [], ◌∷◌, ◌++◌, All, Option, None, Some, codes, decimal, map, true, false}
use Rattle.round_model.specs.declared.entry.Did.{Did}
use Rattle.round_model.specs.declared.entry.Did.TheVariants as did
use Rattle.round_model.specs.declared.entry.Entry.{Entry}
use Rattle.sched_history.specs.Ranges.{IsPrintableFrom}
use Rattle.sched_history.specs.Spelling.{line_from, spaced}
use Rattle.history_reasons.specs.declared.coming.Coming.{Coming}
use Rattle.history_reasons.specs.declared.explaining.Explanation.{Explanation}
use Rattle.history_reasons.specs.declared.explaining.Explanation.TheVariants as explained
use Rattle.history_reasons.specs.declared.reason.Reason.{Reason}
use Rattle.history_reasons.specs.declared.reason.Reason.TheVariants as reason

-- a number in decimal between these bytes
abbrev pub numbered_line : List ℕ → ℕ → List ℕ → List ℕ
numbered_line front number behind = front ++ (decimal number ++ behind)

-- the number behind these bytes, or a dash where there is none
abbrev pub line_or_dash : List ℕ → Option ℕ → List ℕ
line_or_dash front None = front ++ codes "-\n"
line_or_dash front (Some number) = numbered_line front number (codes "\n")

-- what a unit comes to, in the words of its entry
abbrev pub unit_line : Option Did → List ℕ
unit_line None = codes "rule unit none\n"
unit_line (Some did.Nothing) = codes "rule unit -\n"
unit_line (Some (did.Kept thread)) = numbered_line (codes "rule unit ") thread (codes " keep\n")
unit_line (Some (did.Queued thread)) = numbered_line (codes "rule unit ") thread (codes " queue\n")
unit_line (Some (did.Blocked thread)) = numbered_line (codes "rule unit ") thread (codes " block\n")
unit_line (Some (did.Ended thread)) = numbered_line (codes "rule unit ") thread (codes " end\n")

-- the line of a reason: the word of the rule, and what should stand there
abbrev pub reason_line : Reason → List ℕ
reason_line reason.Waits = codes "rule waits\n"
reason_line reason.NoneDue = codes "rule none-due\n"
reason_line (reason.Number next) = numbered_line (codes "rule number ") next (codes "\n")
reason_line reason.NoneOpen = codes "rule none-open\n"
reason_line reason.NoCore = codes "rule no-core\n"
reason_line (reason.Enters next) = line_or_dash (codes "rule enters ") next
reason_line (reason.Wakes next) = line_or_dash (codes "rule wakes ") next
reason_line reason.HasWorked = codes "rule worked\n"
reason_line reason.IsToWork = codes "rule to-work\n"
reason_line reason.HasAttempted = codes "rule attempted\n"
reason_line (reason.ReadCount count) = numbered_line (codes "rule reads ") count (codes "\n")
reason_line (reason.Read core saw first last) =
    codes "rule read " ++ decimal core ++ codes " saw " ++ decimal saw
    ++ codes " from " ++ decimal first ++ codes " to " ++ decimal last ++ codes "\n"
reason_line (reason.Place at) = numbered_line (codes "rule place ") at (codes "\n")
reason_line (reason.Unit did) = unit_line did
reason_line (reason.Choice from) = line_or_dash (codes "rule choice ") from
reason_line (reason.Filter true) = codes "rule filter true\n"
reason_line (reason.Filter false) = codes "rule filter false\n"
reason_line (reason.Threads ids) = codes "rule threads" ++ spaced ids ++ codes "\n"

-- the line of an entry that may come, in a round that starts there
abbrev pub legal_line : ℕ → Entry → List ℕ
legal_line start e = codes "legal " ++ line_from start e

abbrev pub legal_lines : Coming → List (List ℕ)
legal_lines coming = map (legal_line coming.start) coming.entries

-- the lines behind the first
abbrev pub why_lines : Explanation → List (List ℕ)
why_lines (explained.Whole count) = []
why_lines (explained.Short count coming) = legal_lines coming
why_lines (explained.Illegal at why coming) = reason_line why ∷ legal_lines coming

-- each entry has a line
abbrev pub AreTold : Coming → Type 0
AreTold coming = All (IsPrintableFrom coming.start) coming.entries

-- the explanation can be written
abbrev pub CanBeTold : Explanation → Type 0
CanBeTold (explained.Whole count) = Unit {0}
CanBeTold (explained.Short count coming) = AreTold coming
CanBeTold (explained.Illegal at why coming) = AreTold coming
