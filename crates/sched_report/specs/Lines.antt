-- How a report is written, line by line.
use Rattle.std.specs.Prelude.{ℕ, List, [], ◌∷◌, ◌++◌, Option, None, Some, codes, decimal, map}
use Rattle.sched_report.specs.declared.rows.CauseRow.{CauseRow}
use Rattle.sched_report.specs.declared.rows.FailRow.{FailRow}
use Rattle.sched_report.specs.declared.rows.FullReport.{FullReport}
use Rattle.sched_report.specs.declared.rows.RestRow.{RestRow}
use Rattle.sched_report.specs.declared.rows.RoundRow.{RoundRow}
use Rattle.sched_report.specs.declared.rows.StillRow.{StillRow}
use Rattle.sched_report.specs.declared.rows.StretchRow.{StretchRow}
use Rattle.sched_report.specs.declared.rows.Totals.{Totals}
use Rattle.sched_report.specs.declared.rows.WasteReport.{WasteReport}

-- words and the number behind them
abbrev pub named : List ℕ → ℕ → List ℕ
named word number = word ++ decimal number

abbrev pub line_of_round : RoundRow → List ℕ
line_of_round row = named (codes "round ") row.number ++ named (codes " spread ") row.spread
    ++ named (codes " idle ") row.idle ++ codes "\n"

-- the line of a stretch, up to that end
abbrev pub still_until : StillRow → List ℕ → List ℕ
still_until row end = named (codes "still ") row.first ++ named (codes " ") row.last
    ++ named (codes " spread ") row.spread ++ named (codes " bad ") row.bad ++ end

-- the line that tells when a stretch comes to rest, and the gap between the loads then
abbrev pub line_of_rest : Option RestRow → List ℕ
line_of_rest None = codes "rest -\n"
line_of_rest (Some rest) = named (codes "rest ") rest.round ++ named (codes " gap ") rest.gap ++ codes "\n"

-- the two lines of a stretch
abbrev pub line_of_still : StillRow → List ℕ
line_of_still row = still_until row (codes "\n") ++ line_of_rest row.rest

-- the same with its steals
abbrev pub line_of_stretch : StretchRow → List ℕ
line_of_stretch row =
    still_until row.still (named (codes " steals ") row.steals ++ codes "\n") ++ line_of_rest row.still.rest

abbrev pub line_of_fail : FailRow → List ℕ
line_of_fail row = named (codes "fail ") row.at ++ named (codes " by ") row.by ++ codes "\n"

-- so it is where an entry explains the Fail. Where none does, its position stands alone
abbrev pub line_of_cause_at : ℕ → Option ℕ → List ℕ
line_of_cause_at at None = named (codes "fail ") at ++ codes "\n"
line_of_cause_at at (Some by) = line_of_fail (record { at = at; by = by })

abbrev pub line_of_cause : CauseRow → List ℕ
line_of_cause row = line_of_cause_at row.at row.by

abbrev pub line_of_total : List ℕ → ℕ → List ℕ
line_of_total word number = named word number ++ codes "\n"

-- the lines of the totals
abbrev pub totals_lines : Totals → List (List ℕ)
totals_lines totals =
    line_of_total (codes "rounds ") totals.rounds
    ∷ line_of_total (codes "entries ") totals.entries
    ∷ line_of_total (codes "steals ") totals.steals
    ∷ line_of_total (codes "fails ") totals.fails
    ∷ line_of_total (codes "bad ") totals.bad
    ∷ line_of_total (codes "wasted ") totals.wasted
    ∷ []

-- the lines of a report: rounds, stretches, failed steals, and the totals
abbrev pub report_lines : FullReport → List (List ℕ)
report_lines report = map line_of_round report.rounds ++ map line_of_still report.stills
    ++ map line_of_fail report.fails ++ totals_lines report.totals

-- the lines of a report on a policy that may waste cores, in the same order
abbrev pub waste_lines : WasteReport → List (List ℕ)
waste_lines waste = map line_of_round waste.rounds ++ map line_of_stretch waste.stretches
    ++ map line_of_cause waste.causes ++ totals_lines waste.totals
